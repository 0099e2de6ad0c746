use Rattle.hdl_tenants.proofs.Lanes.{owner_range, range_owner}
use Rattle.hdl_tenants.proofs.laws.lanes_by_range.Goals as goal

pub returns : goal.returns
returns c = λ r place lane. (owner_range r.publishers place lane, range_owner r.publishers place lane)
