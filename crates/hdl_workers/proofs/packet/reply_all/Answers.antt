use Rattle.std.proofs.Common.{rules, ◌∙◌, sym}
use Rattle.hdl_workers.proofs.Mails.{none_waits}
use Rattle.hdl_workers.proofs.packet.reply_all.Goals as goal

pub loop-packets-preserved : goal.loop-packets-preserved
loop-packets-preserved g c = record {
  only_replies = search rules;
  answers = search rules;
  replied = λ t received n trading. c.reply_oldest.ensures.replied t c.if-not-reply_oldest.false received n (c.loop-packets.invariant.replied t received n trading);
}

pub returns-then-not-reply_oldest-clause-cut : goal.returns-then-not-reply_oldest-clause-cut
returns-then-not-reply_oldest-clause-cut g c = λ t _ received n trading.
    c.reply_oldest.ensures.cut t c.if-not-reply_oldest.true received n (c.loop-packets.invariant.replied t received n trading)

pub returns-clause-replied : goal.returns-clause-replied
returns-clause-replied g c = λ t _.
    let none = none_waits c.loop-packets.peers.items (sym c.is_empty.ensures ∙ c.loop-packets-test.false) in
    rw none at (c.loop-packets.invariant.replied t)
