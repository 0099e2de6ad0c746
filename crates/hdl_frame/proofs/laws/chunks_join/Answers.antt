use Rattle.hdl_frame.proofs.CutLemmas.{chunks_join_lem}
use Rattle.hdl_frame.proofs.laws.chunks_join.Goals as goal

pub returns : goal.returns
returns c = chunks_join_lem
