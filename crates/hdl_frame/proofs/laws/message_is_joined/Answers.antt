use Rattle.hdl_frame.proofs.WholeLemmas.{message_is_joined_lem}
use Rattle.hdl_frame.proofs.laws.message_is_joined.Goals as goal

pub returns : goal.returns
returns c = message_is_joined_lem
