use Rattle.hdl_journal.proofs.Growth.{allowed_stays}
use Rattle.hdl_journal.proofs.laws.allowed_stays.Goals as goal

pub returns : goal.returns
returns c = allowed_stays
