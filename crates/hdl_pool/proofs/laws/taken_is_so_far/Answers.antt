use Rattle.hdl_pool.proofs.LaneLawLemmas.{taken_is_so_far_lem}
use Rattle.hdl_pool.proofs.laws.taken_is_so_far.Goals as goal

pub returns : goal.returns
returns c = taken_is_so_far_lem
