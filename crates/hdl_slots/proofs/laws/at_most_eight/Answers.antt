use Rattle.hdl_slots.proofs.LawLemmas.{at_most_eight_lem}
use Rattle.hdl_slots.proofs.laws.at_most_eight.Goals as goal

pub returns : goal.returns
returns c = at_most_eight_lem
