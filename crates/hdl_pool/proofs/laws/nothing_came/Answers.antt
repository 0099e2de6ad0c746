use Rattle.hdl_pool.proofs.LawLemmas.{nothing_came_lem}
use Rattle.hdl_pool.proofs.laws.nothing_came.Goals as goal

pub returns : goal.returns
returns c = nothing_came_lem
