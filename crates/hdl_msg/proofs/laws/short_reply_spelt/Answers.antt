use Rattle.hdl_msg.proofs.ReplyReadings.{short_reply_spelt_lem}
use Rattle.hdl_msg.proofs.laws.short_reply_spelt.Goals as goal

pub returns : goal.returns
returns c = λ e. short_reply_spelt_lem e
