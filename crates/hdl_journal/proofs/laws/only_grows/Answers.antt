use Rattle.hdl_journal.proofs.Growth.{only_grows}
use Rattle.hdl_journal.proofs.laws.only_grows.Goals as goal

pub returns : goal.returns
returns c = only_grows
