use Rattle.std.proofs.Common.{sym, subst}
use Rattle.sqlite.specs.Files.{file_state}
use Rattle.hdl_rows.specs.Write.{CanWrite}
use Rattle.hdl_durablerows.specs.Durable.{StandsIn, left_by}
use Rattle.hdl_durablerows.proofs.threaded.ThreadedFile.end_away.Goals as goal

pub returns : goal.returns
returns g c t handed = subst (λ w. StandsIn (file_state c.join-file.result.file.rows) (left_by t w c.join-file.result.state)) handed.2 (c.join-file.ensures t handed.0 (subst (λ w. CanWrite t w) (sym handed.2) handed.1))
