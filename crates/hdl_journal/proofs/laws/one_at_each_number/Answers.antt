use Rattle.hdl_journal.proofs.Growth.{one_at_each_number}
use Rattle.hdl_journal.proofs.laws.one_at_each_number.Goals as goal

pub returns : goal.returns
returns c = one_at_each_number
