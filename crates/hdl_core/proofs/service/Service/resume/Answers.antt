use Rattle.std.proofs.Common.{true, subst}
use Rattle.hdl_core.specs.Opening.{IsResumed}
use Rattle.hdl_core.specs.Worlds.{world_of}
use Rattle.hdl_core.proofs.Opened.{resumes}
use Rattle.hdl_core.proofs.service.Service.resume.Goals as goal

pub returns : goal.returns
returns g c =
    let table = g.R.Rows.content c.in_ok-lanes.rows in
    record { resumed = subst (λ t. IsResumed c.args.tenants t (world_of c.args.tenants true c.in_ok-lanes.lanes table)) c.in_ok-lanes.ensures.table (resumes c.args.tenants table c.in_ok-lanes.lanes c.in_ok-lanes.ensures.lanes) }
