use Rattle.hdl_journalrows.proofs.Standing.{leaves}
use Rattle.hdl_journalrows.proofs.told.JournalFileDurableFile.begin.Goals as goal

pub returns-clause-left : goal.returns-clause-left
returns-clause-left g c = λ t kept can. leaves _ _ t _ c.begin.result kept c.begin.ensures.tells
