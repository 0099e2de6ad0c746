use Rattle.hdl_tenants.proofs.Informed.{few_found}
use Rattle.hdl_tenants.proofs.text.Tenants.site.Goals as goal

pub returns-clause-few : goal.returns-clause-few
returns-clause-few c = few_found c.self.inside.publishers c.self.inside.sites c.args.publisher c.of.result c.self.invariant.sites c.of.ensures
