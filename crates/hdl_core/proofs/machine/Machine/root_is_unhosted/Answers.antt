use Rattle.std.proofs.Common.{ap, subst}
use Rattle.hdl_laws.specs.Laws.{HostsNoRoot}
use Rattle.hdl_core.specs.Machine.{Machine}
use Rattle.hdl_core.proofs.Steps.{no_root}
use Rattle.hdl_core.proofs.machine.Machine.root_is_unhosted.Goals as goal

pub returns : goal.returns
returns g c =
    subst (λ w. HostsNoRoot w.site) (ap (λ (m : Machine _). m.world) c.self.view_is) (no_root c.self.inside.tenants c.self.inside.takes_changes c.self.inside.lanes (g.R.Rows.content c.self.inside.rows) (c.root_is_nobodys.ensures c.self.inside.tenants c.opening.ensures.kept))
