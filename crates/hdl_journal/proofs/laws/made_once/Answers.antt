use Rattle.hdl_journal.proofs.Growth.{made_once}
use Rattle.hdl_journal.proofs.laws.made_once.Goals as goal

pub returns : goal.returns
returns c = made_once
