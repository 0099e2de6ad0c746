use Rattle.hdl_frame.proofs.SpellingLemmas.{one_frame_lem}
use Rattle.hdl_frame.proofs.laws.one_frame.Goals as goal

pub returns : goal.returns
returns c = one_frame_lem
