use Rattle.std.proofs.Common.{◌≡◌, ◌++◌, map}
use Rattle.hdl_msg.specs.Views.{values_of}
use Rattle.hdl_value.specs.Padding.{stored_by}
use Rattle.hdl_ops.proofs.written.stored_values.Given as goal

abbrev pub invariant-loop-value : goal.invariant-loop-value
invariant-loop-value l = l.all.items ++ map (stored_by l.fn.wire) (values_of l.values) ≡ map (stored_by l.fn.wire) (values_of l.fn.values)
