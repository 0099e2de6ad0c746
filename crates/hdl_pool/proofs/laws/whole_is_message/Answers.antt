use Rattle.hdl_pool.proofs.LawLemmas.{whole_is_message_lem}
use Rattle.hdl_pool.proofs.laws.whole_is_message.Goals as goal

pub returns : goal.returns
returns c = whole_is_message_lem
