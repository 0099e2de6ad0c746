use Rattle.hdl_name.specs.Name.{canonical}
use Rattle.hdl_rows.specs.Write.{Delete}
use Rattle.hdl_cache.proofs.Beside.{still_true, last_true}
use Rattle.hdl_cache.proofs.masked.MaskedRowsRows.delete.Goals as goal

pub invariant_of-self : goal.invariant_of-self
invariant_of-self g c =
    let write = c.delete-done in (
      still_true write.result (Delete (canonical c.args.name.now)) (g.R.Rows.content c.self.inside.rows) (g.R.Rows.content write.new.self) c.self.inside.masks c.note_write-2.new.self
          write.ensures.done write.ensures.undone c.note_write-2.ensures.forgotten c.note_write-2.ensures.kept c.self.invariant.0,
      last_true write.result (g.R.Rows.content c.self.inside.rows) (g.R.Rows.content write.new.self) c.self.inside.last c.note_write.new.self write.ensures.undone c.note_write.ensures.forgotten c.note_write.ensures.kept c.self.invariant.1,
    )
