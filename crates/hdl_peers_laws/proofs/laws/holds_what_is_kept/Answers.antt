use Rattle.hdl_peers_laws.proofs.Followed.{holds}
use Rattle.hdl_peers_laws.proofs.laws.holds_what_is_kept.Goals as goal

pub returns : goal.returns
returns c = holds
