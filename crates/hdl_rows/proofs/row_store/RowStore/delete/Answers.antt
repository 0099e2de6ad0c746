use Rattle.std.proofs.Common.{◌∙◌, ap}
use Rattle.hdl_rows.specs.RowStore.{entries_of}
use Rattle.hdl_rows.proofs.ShelfLemmas.{to_T}
use Rattle.hdl_rows.proofs.RowsLemmas.{entries-removed}
use Rattle.hdl_rows.proofs.Changes.{deleted_is}
use Rattle.hdl_rows.proofs.row_store.RowStore.delete.Goals as goal

pub invariant_of-self : goal.invariant_of-self
invariant_of-self c = (deleted_is c.args.self.now c.self.inside.rows.entries c.remove.new.self.entries c.args.name.now c.self.view_is c.self.invariant (ap entries_of c.remove.ensures.entries ∙ entries-removed c.args.name.now c.self.inside.rows.entries (to_T _ c.self.invariant.handles))).0

pub returns : goal.returns
returns c = (deleted_is c.args.self.now c.self.inside.rows.entries c.remove.new.self.entries c.args.name.now c.self.view_is c.self.invariant (ap entries_of c.remove.ensures.entries ∙ entries-removed c.args.name.now c.self.inside.rows.entries (to_T _ c.self.invariant.handles))).1
