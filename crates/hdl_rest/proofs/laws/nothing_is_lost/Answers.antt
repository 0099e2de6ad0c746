use Rattle.hdl_rest.proofs.Losses.{nothing_is_lost_lem}
use Rattle.hdl_rest.proofs.laws.nothing_is_lost.Goals as goal

pub returns : goal.returns
returns c = nothing_is_lost_lem
