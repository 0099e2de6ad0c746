use Rattle.std.proofs.Common.{◌∙◌, sym, ap, subst}
use Rattle.sqlite.specs.Files.{file_state}
use Rattle.hdl_rows.specs.Write.{CanWrite}
use Rattle.hdl_durablerows.specs.Durable.{IsKept, left_by}
use Rattle.hdl_durablerows.specs.Writes.{write_in}
use Rattle.hdl_durablerows.specs.Threaded.{StandsAt}
use Rattle.hdl_durablerows.specs.declared.threaded.FileHolder.TheVariants.{Here}
use Rattle.hdl_durablerows.proofs.threaded.ThreadedFile.hand_over.Goals as goal

pub start-requires : goal.start-requires
start-requires g c = record { can = (c.requires.can.0, c.requires.can.1, subst (λ w. CanWrite c.requires.can.0 w) (sym c.in-Ok.ensures) c.requires.can.2) }

pub returns-in-Ok-start : goal.returns-in-Ok-start
returns-in-Ok-start g c t kept can =
    let given = c.in-Ok-start.ensures.given in (
      subst (λ f. IsKept t (file_state f.rows)) (sym given.0) kept,
      can,
      ap write_in given.1 ∙ c.in-Ok.ensures,
    )

pub returns-in-Err : goal.returns-in-Err
returns-in-Err g c t kept can = subst (λ w. StandsAt (Here c.in-Err.back.file) (left_by t w c.in-Err.back.state)) c.in-Ok.ensures (c.in-Err.ensures.made t kept (subst (λ w. CanWrite t w) (sym c.in-Ok.ensures) can))
