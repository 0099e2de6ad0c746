use Rattle.hdl_cluster_laws.proofs.Following.{shared_are_histories}
use Rattle.hdl_cluster_laws.proofs.sharing.shared_are_histories.Goals as goal

pub returns : goal.returns
returns c = shared_are_histories
