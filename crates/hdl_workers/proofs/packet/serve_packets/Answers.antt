use Rattle.std.proofs.Common.{rules, arith, ◌≡◌, ◌≤◌, ◌∙◌, refl, inl, inr, take, ◌++◌, ◌∷◌, []}
use Rattle.hdl_workers.specs.Mail.{correspondence_at, correspondence_with}
use Rattle.hdl_workers.proofs.Used.{stamps_both, used_still}
use Rattle.hdl_workers.proofs.Mails.{trading_of, traded_of, trading_later, later_by}
use Rattle.hdl_workers.proofs.packet.serve_packets.Goals as goal

pub loop-buffer-init : goal.loop-buffer-init
loop-buffer-init g c = record {
  faults = search rules;
  line = search rules;
  stamps = record { moments = c.begin.ensures.moments; nonces = λ t. used_still _ _ _ _ _ refl c.begin.ensures.nonces };
  trading = λ t.
      rw ((c.requires.first t).0, (c.requires.first t).1, c.new-peers.ensures)
      (trading_of [] _ (correspondence_with [] (g.P.Packets.fault_count c.args.packets.now) c.begin.new.line []) refl (c.begin.ensures.traded c.if-not-begin.false _));
}

pub loop-buffer-preserved : goal.loop-buffer-preserved
loop-buffer-preserved g c = record {
  faults = search rules;
  line = search rules;
  stamps = stamps_both _ _ _ _ _ c.loop-buffer.invariant.stamps c.take_in.ensures.stamps;
  trading = λ t.
      let fc : g.P.Packets.fault_count c.loop-buffer.packets ≤ g.P.Packets.fault_count c.receive_next.new.packets = omega (arith, c.in-Ok-Some.ensures.faults) in
      let came : g.P.Packets.received c.receive_next.new.packets ≡ g.P.Packets.received c.loop-buffer.packets ++ (c.in-Ok-Some.peer, take c.in-Ok-Some.length c.receive_next.new.buffer) ∷ [] = rw c.in-Ok-Some.field-0-is at (c.in-Ok-Some.ensures.received t) in
      let before = trading_later g.P.Packets _ _ c.loop-buffer.line _ _ _ (c.loop-buffer.invariant.trading t) (c.receive_next.ensures.sent t) fc in
      rw came (c.take_in.ensures.took c.if-not-take_in.false _ _ _ _ before);
}

pub returns-then-not-begin-clause-trades : goal.returns-then-not-begin-clause-trades
returns-then-not-begin-clause-trades g c = λ t. rw ((c.requires.first t).0, (c.requires.first t).1) (c.begin.ensures.cut c.if-not-begin.true _)

pub returns-then-reply_all-clause-whole : goal.returns-then-reply_all-clause-whole
returns-then-reply_all-clause-whole g c = λ t _.
    let before = trading_later g.P.Packets _ _ c.loop-buffer.line _ _ _ (c.loop-buffer.invariant.trading t) (c.receive_next.ensures.sent t) (later_by _ _ _ refl c.in-Err.ensures.faults) in
    rw (c.reply_all.ensures.only_replies.received t ∙ c.in-Err.ensures.received t)
    (traded_of _ _ (correspondence_at g.P.Packets c.reply_all.new.packets c.reply_all.new.line []) refl (c.reply_all.ensures.replied t c.if-reply_all.true _ _ before))

pub returns-then-reply_all-clause-trades : goal.returns-then-reply_all-clause-trades
returns-then-reply_all-clause-trades g c = λ t.
    let (frames, shown, far, mailed, len) = returns-then-reply_all-clause-whole g c t refl in
    inr (frames, shown, inl far, inl mailed)

pub returns-in-Err-clause-trades : goal.returns-in-Err-clause-trades
returns-in-Err-clause-trades g c = λ t.
    let before = trading_later g.P.Packets _ _ c.loop-buffer.line _ _ _ (c.loop-buffer.invariant.trading t) (c.receive_next.ensures.sent t) (later_by _ _ _ refl c.in-Err.ensures.faults) in
    rw (c.reply_all.ensures.only_replies.received t ∙ c.in-Err.ensures.received t) (inr (c.reply_all.ensures.cut t c.if-reply_all.false _ _ before))

pub returns-then-not-take_in-clause-stamps : goal.returns-then-not-take_in-clause-stamps
returns-then-not-take_in-clause-stamps g c = stamps_both _ _ _ _ _ c.loop-buffer.invariant.stamps c.take_in.ensures.stamps

pub returns-then-not-take_in-clause-trades : goal.returns-then-not-take_in-clause-trades
returns-then-not-take_in-clause-trades g c = λ t.
    let fc : g.P.Packets.fault_count c.loop-buffer.packets ≤ g.P.Packets.fault_count c.receive_next.new.packets = omega (arith, c.in-Ok-Some.ensures.faults) in
    let came : g.P.Packets.received c.receive_next.new.packets ≡ g.P.Packets.received c.loop-buffer.packets ++ (c.in-Ok-Some.peer, take c.in-Ok-Some.length c.receive_next.new.buffer) ∷ [] = rw c.in-Ok-Some.field-0-is at (c.in-Ok-Some.ensures.received t) in
    let before = trading_later g.P.Packets _ _ c.loop-buffer.line _ _ _ (c.loop-buffer.invariant.trading t) (c.receive_next.ensures.sent t) fc in
    rw came (inr (c.take_in.ensures.cut c.if-not-take_in.true _ _ _ _ before))
