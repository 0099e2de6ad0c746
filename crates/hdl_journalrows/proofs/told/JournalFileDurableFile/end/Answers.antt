use Rattle.hdl_journalrows.proofs.Standing.{leaves}
use Rattle.hdl_journalrows.proofs.told.JournalFileDurableFile.end.Goals as goal

pub returns-clause-left : goal.returns-clause-left
returns-clause-left g c = λ t kept. leaves _ _ t _ c.end.result kept c.end.ensures.tells
