use Rattle.hdl_frame.proofs.WholeLemmas.{one_message_lem}
use Rattle.hdl_frame.proofs.laws.one_message.Goals as goal

pub returns : goal.returns
returns c = one_message_lem
