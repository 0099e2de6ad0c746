use Rattle.std.proofs.Common.{sym, subst}
use Rattle.hdl_rows.specs.Table.{Table}
use Rattle.hdl_rows.specs.Write.{CanWrite}
use Rattle.hdl_durablerows.specs.Durable.{Keeps}
use Rattle.hdl_durablerows.specs.Writes.{write_of}
use Rattle.hdl_durablerows.specs.Threaded.{StandsAt}
use Rattle.hdl_durablerows.proofs.threaded.ThreadedFileDurableFile.begin.Goals as goal

pub begin_at-place-requires : goal.begin_at-place-requires
begin_at-place-requires g c = record { can = subst (λ p. (t : Table) × StandsAt p (Keeps t) × CanWrite t (write_of c.args.write.now)) (sym c.replace-place.ensures.value) c.requires.can }
