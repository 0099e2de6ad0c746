use Rattle.hdl_core.proofs.Opened.{few_lanes}
use Rattle.hdl_core.proofs.opening.room_for.Goals as goal

pub new-requires : goal.new-requires
new-requires c = record { few = few_lanes c.args.tenants.now c.in-Ok.lanes.items c.opening.ensures.kept c.in-Ok.ensures }
