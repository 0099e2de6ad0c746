use Rattle.std.proofs.Common.{◌≡◌, rules, subst, sym}
use Rattle.hdl_msg.specs.Reply.{short_reply, IsReplyFrame}
use Rattle.hdl_msg.proofs.ReplyReadings.{short_reply_read}
use Rattle.hdl_core.proofs.answering.malformed_reply.Goals as goal

pub returns-clause-read : goal.returns-clause-read
returns-clause-read c =
    let is : c.new.result ≡ short_reply 4 c.args.envelope.now = search rules in
    subst IsReplyFrame (sym is) (short_reply_read c.args.envelope.now).1
