use Rattle.hdl_pool.proofs.LawLemmas.{freed_is_gone_lem}
use Rattle.hdl_pool.proofs.laws.freed_is_gone.Goals as goal

pub returns : goal.returns
returns c = freed_is_gone_lem
