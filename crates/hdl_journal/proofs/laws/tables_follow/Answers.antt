use Rattle.hdl_journal.proofs.Growth.{tables_follow}
use Rattle.hdl_journal.proofs.laws.tables_follow.Goals as goal

pub returns : goal.returns
returns c = tables_follow
