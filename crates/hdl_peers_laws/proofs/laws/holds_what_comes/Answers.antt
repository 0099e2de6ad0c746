use Rattle.hdl_peers_laws.proofs.Coming.{holds_what_comes}
use Rattle.hdl_peers_laws.proofs.laws.holds_what_comes.Goals as goal

pub returns : goal.returns
returns c = holds_what_comes
