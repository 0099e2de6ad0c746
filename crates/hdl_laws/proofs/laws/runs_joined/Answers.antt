use Rattle.hdl_laws.proofs.Joined.{joins_runs}
use Rattle.hdl_laws.proofs.laws.runs_joined.Goals as goal

pub returns : goal.returns
returns c = joins_runs
