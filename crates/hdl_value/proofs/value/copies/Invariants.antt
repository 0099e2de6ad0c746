use Rattle.std.proofs.Common.{◌≡◌, take}
use Rattle.hdl_value.proofs.value.copies.Given as goal

abbrev pub invariant-loop-r : goal.invariant-loop-r
invariant-loop-r l = l.all.items ≡ take l.r-index l.refs
