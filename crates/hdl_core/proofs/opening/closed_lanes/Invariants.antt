use Rattle.std.proofs.Common.{◌≡◌}
use Rattle.hdl_core.specs.Opening.{first_lanes}
use Rattle.hdl_core.proofs.opening.closed_lanes.Given as goal

abbrev pub invariant-loop-number : goal.invariant-loop-number
invariant-loop-number l = l.lanes.items ≡ first_lanes l.tenants l.number
