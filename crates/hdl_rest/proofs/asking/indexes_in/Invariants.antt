use Rattle.std.proofs.Common.{◌≡◌, ◌++◌, map}
use Rattle.hdl_msg.specs.Views.{values_of}
use Rattle.hdl_rest.proofs.asking.indexes_in.Given as goal

abbrev pub invariant-loop-cut : goal.invariant-loop-cut
invariant-loop-cut l = l.indexes.items ++ map (λ value. value.index) (values_of l.values) ≡ map (λ value. value.index) (values_of l.fn.values)
