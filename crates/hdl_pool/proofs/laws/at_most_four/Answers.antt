use Rattle.hdl_pool.proofs.LawLemmas.{at_most_four_lem}
use Rattle.hdl_pool.proofs.laws.at_most_four.Goals as goal

pub returns : goal.returns
returns c = at_most_four_lem
