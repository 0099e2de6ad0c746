use Rattle.hdl_cluster_laws.proofs.Kept.{keeps_turns}
use Rattle.hdl_cluster_laws.proofs.sharing.keeps_turns.Goals as goal

pub returns : goal.returns
returns c = keeps_turns
