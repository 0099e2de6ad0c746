use Rattle.hdl_tenants.proofs.Distinct.{hosted_given, given_hosts}
use Rattle.hdl_tenants.proofs.laws.hosted_as_given.Goals as goal

pub returns : goal.returns
returns c = λ r u prefix. (hosted_given r.hostings u prefix, given_hosts r.hostings u prefix)
