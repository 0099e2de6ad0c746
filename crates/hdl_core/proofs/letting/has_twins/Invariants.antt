use Rattle.std.proofs.Common.{◌≡◌, length}
use Rattle.hdl_ops.specs.Admission.{has_twins}
use Rattle.hdl_core.proofs.letting.has_twins.Given as goal

abbrev pub invariant-loop-first : goal.invariant-loop-first
invariant-loop-first l = has_twins (λ i. i) l.left ≡ has_twins (λ i. i) l.fn.indexes

abbrev pub decreases-loop-first : goal.decreases-loop-first
decreases-loop-first l = length l.left
