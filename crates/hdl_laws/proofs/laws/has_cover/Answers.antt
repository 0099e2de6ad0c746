use Rattle.hdl_laws.proofs.Covers.{has_cover}
use Rattle.hdl_laws.proofs.laws.has_cover.Goals as goal

pub returns : goal.returns
returns c = has_cover
