use Rattle.std.proofs.Common.{◌∙◌, ap, sym}
use Rattle.hdl_core.specs.Machine.{Machine}
use Rattle.hdl_core.proofs.Opened.{table_of_world}
use Rattle.hdl_core.proofs.machine.Machine.rows.Goals as goal

pub returns-clause-table : goal.returns-clause-table
returns-clause-table g c = ap g.R.Rows.content c.get_ref.ensures ∙ sym (table_of_world _ _ _ _) ∙ ap (λ (m : Machine _). m.world.table) c.self.view_is
