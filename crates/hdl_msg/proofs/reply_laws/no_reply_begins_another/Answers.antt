use Rattle.hdl_msg.proofs.ReplyPrefixes.{none_begins_another_reply}
use Rattle.hdl_msg.proofs.reply_laws.no_reply_begins_another.Goals as goal

pub returns : goal.returns
returns c = λ w a b m p q s u e. none_begins_another_reply w a b m p q s u e
