use Rattle.hdl_journal.proofs.Growth.{one_is_earlier}
use Rattle.hdl_journal.proofs.laws.one_is_earlier.Goals as goal

pub returns : goal.returns
returns c = one_is_earlier
