use Rattle.std.proofs.Common.{sym, subst}
use Rattle.hdl_rows.specs.Table.{Table}
use Rattle.hdl_durablerows.specs.Durable.{Makes}
use Rattle.hdl_durablerows.specs.Writes.{write_of}
use Rattle.hdl_durablerows.specs.Threaded.{StandsAt}
use Rattle.hdl_durablerows.proofs.threaded.ThreadedFileDurableFile.end.Goals as goal

pub end_at-place-requires : goal.end_at-place-requires
end_at-place-requires g c = record { begun = subst (λ p. (t : Table) × StandsAt p (Makes t (write_of c.args.write.now))) (sym c.replace-place.ensures.value) c.requires.begun }
