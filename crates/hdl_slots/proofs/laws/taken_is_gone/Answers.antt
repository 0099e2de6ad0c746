use Rattle.hdl_slots.proofs.LawLemmas.{taken_is_gone_lem}
use Rattle.hdl_slots.proofs.laws.taken_is_gone.Goals as goal

pub returns : goal.returns
returns c = taken_is_gone_lem
