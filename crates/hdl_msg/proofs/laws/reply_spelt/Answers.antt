use Rattle.hdl_msg.proofs.ReplyReadings.{reply_spelt_lem}
use Rattle.hdl_msg.proofs.laws.reply_spelt.Goals as goal

pub returns : goal.returns
returns c = λ y readable. reply_spelt_lem y readable
