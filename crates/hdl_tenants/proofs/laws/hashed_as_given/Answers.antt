use Rattle.hdl_tenants.proofs.Distinct.{hashed_given}
use Rattle.hdl_tenants.proofs.laws.hashed_as_given.Goals as goal

pub returns : goal.returns
returns c = λ r is h there. hashed_given r.hostings h is.once there
