use Rattle.hdl_serve.proofs.Joined.{serves_what_lanes_give}
use Rattle.hdl_serve.proofs.laws.nothing_without_lanes.Goals as goal

pub returns : goal.returns
returns c = serves_what_lanes_give
