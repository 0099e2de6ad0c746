use Rattle.std.proofs.Common.{sym, ◌∙◌, arith}
use Rattle.hdl_msg.specs.Reply.{reply_seen}
use Rattle.hdl_msg.proofs.ReplyReadings.{reply_takes, reply_again}
use Rattle.hdl_msg.proofs.reply_reading.read_reply.Goals as goal

pub returns-in-Some-clause-read : goal.returns-in-Some-clause-read
returns-in-Some-clause-read c = reply_takes c.args.wire c.args.octets.now (reply_seen c.in-Some.reply) (λ i. omega (arith, c.type_inv.octets i)) c.in-Some.ensures

pub returns-in-None-clause-malformed : goal.returns-in-None-clause-malformed
returns-in-None-clause-malformed c = λ p s. let both = sym c.in-None.ensures ∙ reply_again c.args.wire c.args.octets.now p s in absurd cc
