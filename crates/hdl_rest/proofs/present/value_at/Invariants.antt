use Rattle.std.proofs.Common.{◌≡◌}
use Rattle.hdl_msg.specs.Views.{values_of}
use Rattle.hdl_rest.specs.Present.{value_at}
use Rattle.hdl_rest.proofs.present.value_at.Given as goal

abbrev pub invariant-loop-cut : goal.invariant-loop-cut
invariant-loop-cut l = value_at l.fn.index (values_of l.values) ≡ value_at l.fn.index (values_of l.fn.values)
