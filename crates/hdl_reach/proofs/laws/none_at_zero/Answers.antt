use Rattle.hdl_reach.proofs.Agreement.{zero_refers}
use Rattle.hdl_reach.proofs.laws.none_at_zero.Goals as goal

pub returns : goal.returns
returns c = λ t h k m zero is. zero_refers t h k m zero is
