use Rattle.hdl_peers_laws.proofs.Followed.{begins}
use Rattle.hdl_peers_laws.proofs.laws.begins_followed.Goals as goal

pub returns : goal.returns
returns c = begins
