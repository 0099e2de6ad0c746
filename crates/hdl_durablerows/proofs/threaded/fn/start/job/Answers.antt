use Rattle.std.proofs.Common.{sym, subst}
use Rattle.sqlite.specs.Files.{file_state}
use Rattle.hdl_rows.specs.Write.{CanWrite}
use Rattle.hdl_durablerows.specs.Durable.{StandsIn, left_by}
use Rattle.hdl_durablerows.proofs.threaded.fn.start.job.Goals as goal

pub begin-state-requires : goal.begin-state-requires
begin-state-requires c = record { can = (c.requires.0, c.requires.1, subst (λ w. CanWrite c.requires.0 w) (sym c.as_write.ensures) c.requires.2) }

pub returns : goal.returns
returns c t kept can = subst (λ w. StandsIn (file_state c.begin-state.new.self.rows) (left_by t w c.begin-state.result)) c.as_write.ensures (c.begin-state.ensures t kept (subst (λ w. CanWrite t w) (sym c.as_write.ensures) can))
