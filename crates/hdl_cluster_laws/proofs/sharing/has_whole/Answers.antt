use Rattle.hdl_cluster_laws.proofs.Whole.{has_whole}
use Rattle.hdl_cluster_laws.proofs.sharing.has_whole.Goals as goal

pub returns : goal.returns
returns c = has_whole
