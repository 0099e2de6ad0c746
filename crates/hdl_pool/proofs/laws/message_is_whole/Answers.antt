use Rattle.hdl_pool.proofs.LawLemmas.{message_is_whole_lem}
use Rattle.hdl_pool.proofs.laws.message_is_whole.Goals as goal

pub returns : goal.returns
returns c = message_is_whole_lem
