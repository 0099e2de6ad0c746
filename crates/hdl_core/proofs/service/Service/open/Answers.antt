use Rattle.hdl_core.proofs.Opened.{opens}
use Rattle.hdl_core.proofs.service.Service.open.Goals as goal

pub returns : goal.returns
returns g c = record { opening = opens c.args.tenants (g.R.Rows.content c.in_ok-lanes.rows) c.in_ok-lanes.lanes c.in_ok-lanes.ensures.lanes c.in_ok-lanes.ensures.table }
