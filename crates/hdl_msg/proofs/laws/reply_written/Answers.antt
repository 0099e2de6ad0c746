use Rattle.hdl_msg.proofs.ReplyReadings.{reply_written_lem}
use Rattle.hdl_msg.proofs.laws.reply_written.Goals as goal

pub returns : goal.returns
returns c = λ w octets p session request s le. reply_written_lem w octets p session request s le
