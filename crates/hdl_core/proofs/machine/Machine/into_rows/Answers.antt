use Rattle.std.proofs.Common.{◌∙◌, ap, sym}
use Rattle.hdl_core.specs.Machine.{Machine}
use Rattle.hdl_core.proofs.Opened.{table_of_world}
use Rattle.hdl_core.proofs.machine.Machine.into_rows.Goals as goal

pub returns : goal.returns
returns g c = ap g.R.Rows.content c.into_inner.ensures ∙ sym (table_of_world _ _ _ _) ∙ ap (λ (m : Machine _). m.world.table) c.self.view_is
