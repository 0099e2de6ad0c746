use Rattle.hdl_laws.proofs.Isolation.{keeps_covers}
use Rattle.hdl_laws.proofs.laws.cover_kept.Goals as goal

pub returns : goal.returns
returns c = keeps_covers
