use Rattle.hdl_frame.proofs.WholeLemmas.{joined_is_message_lem}
use Rattle.hdl_frame.proofs.laws.joined_is_message.Goals as goal

pub returns : goal.returns
returns c = joined_is_message_lem
