use Rattle.hdl_slots.proofs.LawLemmas.{put_is_found_lem}
use Rattle.hdl_slots.proofs.laws.put_is_found.Goals as goal

pub returns : goal.returns
returns c = put_is_found_lem
