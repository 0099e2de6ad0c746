use Rattle.std.proofs.Common.{◌≡◌, ◌++◌, drop, map}
use Rattle.hdl_rest.proofs.carry.indexes_of.Given as goal

abbrev pub invariant-loop-value : goal.invariant-loop-value
invariant-loop-value l = l.indexes.items ++ map (λ value. value.index) (drop l.value-index l.values) ≡ map (λ value. value.index) l.values
