use Rattle.hdl_cluster_laws.proofs.Merging.{turns_are_runs}
use Rattle.hdl_cluster_laws.proofs.laws.turns_are_runs.Goals as goal

pub returns : goal.returns
returns c = turns_are_runs
