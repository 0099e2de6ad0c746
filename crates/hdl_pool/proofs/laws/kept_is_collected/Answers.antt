use Rattle.hdl_pool.proofs.LawLemmas.{kept_is_collected_lem}
use Rattle.hdl_pool.proofs.laws.kept_is_collected.Goals as goal

pub returns : goal.returns
returns c = kept_is_collected_lem
