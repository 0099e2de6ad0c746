use Rattle.std.proofs.Common.{sym, subst}
use Rattle.hdl_rows.specs.Write.{CanWrite, after_write}
use Rattle.hdl_durablerows.specs.Writes.{write_in}
use Rattle.hdl_durablerows.proofs.backing_file.BackingFile.undo.Goals as goal

pub undo-state-requires : goal.undo-state-requires
undo-state-requires g c =
    let t = after_write (g.R.Rows.content c.args.rows.now) (write_in c.args.own) in
    record { can = (t, c.requires.stands.file, subst (λ w. CanWrite t w) (sym c.as_write.ensures) c.in-Ok.ensures.undo.0) }
