use Rattle.sqlite.specs.Held.{state}
use Rattle.hdl_durablerows.specs.Writes.{write_of}
use Rattle.hdl_durablerows.proofs.Kept.{made}
use Rattle.hdl_durablerows.proofs.durable_file.FileRowsDurableFile.begin.Goals as goal

pub returns-in-Ok-clause-left : goal.returns-in-Ok-clause-left
returns-in-Ok-clause-left g c t kept can = made t (write_of c.args.write.now) (state g.S.Store c.args.self.now) (state g.S.Store c.try_write.new.file) kept can c.try_write.ensures.survives c.in-Ok.ensures.done c.in-Ok.ensures.durable
