use Rattle.hdl_ops.proofs.Decided.{one_decision_lem}
use Rattle.hdl_ops.proofs.laws.one_decision.Goals as goal

pub returns : goal.returns
returns c = one_decision_lem
