use Rattle.hdl_tenants.proofs.Informed.{site_given}
use Rattle.hdl_tenants.proofs.laws.sited_as_given.Goals as goal

pub returns : goal.returns
returns c = λ r is s there. site_given r.sites s is.one_site there
