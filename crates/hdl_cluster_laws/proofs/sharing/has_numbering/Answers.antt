use Rattle.hdl_cluster_laws.proofs.Whole.{has_numbering}
use Rattle.hdl_cluster_laws.proofs.sharing.has_numbering.Goals as goal

pub returns : goal.returns
returns c = has_numbering
