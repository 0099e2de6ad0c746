use Rattle.std.proofs.Common.{◌∙◌}
use Rattle.hdl_rows.proofs.Changes.{has_is}
use Rattle.hdl_rows.proofs.row_store.RowStore.has.Goals as goal

pub returns : goal.returns
returns c = c.contains_key.ensures ∙ has_is c.args.self.now c.self.inside.rows.entries c.args.name.now c.self.view_is
