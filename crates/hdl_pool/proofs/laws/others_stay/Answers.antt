use Rattle.hdl_pool.proofs.LaneLawLemmas.{others_stay_lem}
use Rattle.hdl_pool.proofs.laws.others_stay.Goals as goal

pub returns : goal.returns
returns c = others_stay_lem
