use Rattle.std.proofs.Common.{◌∙◌}
use Rattle.hdl_core.specs.Held.{held_lanes}
use Rattle.hdl_core.proofs.HeldLanes.{closed}
use Rattle.hdl_core.proofs.lanes.Lanes.new.Goals as goal

pub returns : goal.returns
returns c = (λ i. held_lanes c.args.lanes.items (c.in_ok-pool.ensures.ok i) (c.in_ok-slots.ensures.ok i)) ∙ closed c.args.lanes.items 64 c.requires.few
