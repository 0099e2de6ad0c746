use Rattle.hdl_journal.proofs.Growth.{stands_behind}
use Rattle.hdl_journal.proofs.laws.stands_behind.Goals as goal

pub returns : goal.returns
returns c = stands_behind
