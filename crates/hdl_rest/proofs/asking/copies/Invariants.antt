use Rattle.std.proofs.Common.{◌≡◌, ◌++◌, drop}
use Rattle.hdl_rest.proofs.asking.copies.Given as goal

abbrev pub invariant-loop-value : goal.invariant-loop-value
invariant-loop-value l = l.all.items ++ drop l.value-index l.values ≡ l.values
