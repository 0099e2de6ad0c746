use Rattle.std.proofs.Common.{◌≡◌}
use Rattle.hdl_msg.specs.Views.{numbers_of}
use Rattle.hdl_ops.specs.Admission.{has_twins}
use Rattle.hdl_ops.proofs.written.has_twin_indexes.Given as goal

abbrev pub invariant-loop-index : goal.invariant-loop-index
invariant-loop-index l = has_twins (λ i. i) (numbers_of l.indexes) ≡ has_twins (λ i. i) (numbers_of l.fn.indexes)
