use Rattle.std.proofs.Common.{◌≡◌, take}
use Rattle.hdl_durablerows.proofs.write.are_same_references.Given as goal

abbrev pub invariant-loop-i : goal.invariant-loop-i
invariant-loop-i l = take l.i l.some ≡ take l.i l.others
