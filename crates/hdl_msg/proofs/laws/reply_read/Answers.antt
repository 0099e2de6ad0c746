use Rattle.hdl_msg.proofs.ReplyReadings.{reply_again}
use Rattle.hdl_msg.proofs.laws.reply_read.Goals as goal

pub returns : goal.returns
returns c = λ w octets p s. reply_again w octets p s
