use Rattle.hdl_rows.proofs.Prefixes.{have_after_delete}
use Rattle.hdl_rows.proofs.plain.PlainRowsRows.delete.Goals as goal

pub invariant_of-self : goal.invariant_of-self
invariant_of-self c = have_after_delete c.self.inside.row_store c.delete.new.self c.canon.result.now c.self.invariant c.delete.ensures
