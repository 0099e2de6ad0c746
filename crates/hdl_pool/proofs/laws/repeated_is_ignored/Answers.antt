use Rattle.hdl_pool.proofs.LawLemmas.{repeated_is_ignored_lem}
use Rattle.hdl_pool.proofs.laws.repeated_is_ignored.Goals as goal

pub returns : goal.returns
returns c = repeated_is_ignored_lem
