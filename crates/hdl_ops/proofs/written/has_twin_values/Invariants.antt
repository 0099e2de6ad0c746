use Rattle.std.proofs.Common.{◌≡◌}
use Rattle.hdl_msg.specs.Views.{values_of}
use Rattle.hdl_ops.specs.Admission.{has_twins}
use Rattle.hdl_ops.proofs.written.has_twin_values.Given as goal

abbrev pub invariant-loop-value : goal.invariant-loop-value
invariant-loop-value l = has_twins (λ v. v.index) (values_of l.values) ≡ has_twins (λ v. v.index) (values_of l.fn.values)
