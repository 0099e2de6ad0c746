use Rattle.hdl_peers_laws.proofs.Followed.{steps_followed}
use Rattle.hdl_peers_laws.proofs.laws.steps_followed.Goals as goal

pub returns : goal.returns
returns c = steps_followed
