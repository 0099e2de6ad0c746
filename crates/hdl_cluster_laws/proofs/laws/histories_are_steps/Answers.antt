use Rattle.hdl_cluster_laws.proofs.Histories.{histories_are_steps}
use Rattle.hdl_cluster_laws.proofs.laws.histories_are_steps.Goals as goal

pub returns : goal.returns
returns c = histories_are_steps
