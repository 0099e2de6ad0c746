use Rattle.std.proofs.Common.{rules, arith, map, ◌++◌, ◌≡◌, append-nil, sym, ap, ◌∙◌, refl}
use Rattle.hdl_workers.specs.Mail.{ArePieces, to_peer}
use Rattle.hdl_workers.proofs.Mails.{seen, seen_more, sent_more, short_at, failed_by, later_by, went_all, went_some, went_to_fault, part_of_whole}
use Rattle.hdl_workers.proofs.packet.send_reply.Goals as goal

pub loop-envelope-init : goal.loop-envelope-init
loop-envelope-init g c = record {
  turns = search rules;
  order = refl;
  faults = search rules;
  received = search rules;
  sent = λ t. sym (append-nil _);
}

pub send_piece-requires : goal.send_piece-requires
send_piece-requires g c =
    let same : c.into_iter-envelope-iterator.result ≡ c.pieces-envelope-items.result = search rules in
    record {
      short = short_at (seen c.loop-envelope.yielded) _ _ _ _ c.pieces-envelope-items.ensures.short (c.loop-envelope.invariant.order ∙ same) c.in-Some.ensures.steps;
    }

pub loop-envelope-preserved : goal.loop-envelope-preserved
loop-envelope-preserved g c = record {
  turns = search rules;
  order = seen_more c.loop-envelope.yielded (c.in-Some.envelope, c.in-Some.payload) _ _ _ c.loop-envelope.invariant.order c.in-Some.ensures.steps;
  faults = search rules;
  received = search rules;
  sent = λ t. sent_more _ c.loop-envelope.yielded (c.in-Some.envelope, c.in-Some.payload) _ _ _ (c.loop-envelope.invariant.sent t) (c.in-Ok.ensures.sent t);
}

pub returns-then-not-spend-clause-part : goal.returns-then-not-spend-clause-part
returns-then-not-spend-clause-part g c = λ t.
    let same : c.into_iter-envelope-iterator.result ≡ c.pieces-envelope-items.result = search rules in
    let are : ArePieces c.args.octets.now c.into_iter-envelope-iterator.result = rw same (c.pieces-envelope-items.ensures.reply, c.pieces-envelope-items.ensures.none) in
    let le = c.loop-envelope.invariant.faults in
    went_some _ _ _ (seen c.loop-envelope.yielded) _ _ _ _ _ are (sym c.loop-envelope.invariant.order) (c.loop-envelope.invariant.sent t) (omega arith)

pub returns-in-Err-clause-whole : goal.returns-in-Err-clause-whole
returns-in-Err-clause-whole g c = λ t _.
    let same : c.into_iter-envelope-iterator.result ≡ c.pieces-envelope-items.result = search rules in
    let are : ArePieces c.args.octets.now c.into_iter-envelope-iterator.result = rw same (c.pieces-envelope-items.ensures.reply, c.pieces-envelope-items.ensures.none) in
    went_to_fault _ _ _ (seen c.loop-envelope.yielded) _ _ _ _ _ are (sym c.loop-envelope.invariant.order) (c.in-Err.ensures.sent t ∙ c.loop-envelope.invariant.sent t)
    (later_by _ _ _ c.loop-envelope.invariant.faults c.in-Err.ensures.faults) (failed_by _ _ _ c.loop-envelope.invariant.faults c.in-Err.ensures.faults)

pub returns-in-Err-clause-part : goal.returns-in-Err-clause-part
returns-in-Err-clause-part g c = λ t. part_of_whole _ _ _ _ _ _ (returns-in-Err-clause-whole g c t refl)

pub returns-clause-whole : goal.returns-clause-whole
returns-clause-whole g c = λ t _.
    let same : c.into_iter-envelope-iterator.result ≡ c.pieces-envelope-items.result = search rules in
    let are : ArePieces c.args.octets.now c.into_iter-envelope-iterator.result = rw same (c.pieces-envelope-items.ensures.reply, c.pieces-envelope-items.ensures.none) in
    let all = append-nil (seen c.loop-envelope.yielded) in
    let done = sym c.loop-envelope.invariant.order ∙ ap (λ w. seen c.loop-envelope.yielded ++ w) c.in-None.ensures.steps.0 ∙ all in
    let le = c.loop-envelope.invariant.faults in
    went_all _ _ _ _ _ _ _ are (c.loop-envelope.invariant.sent t ∙ ap (λ w. g.P.Packets.sent c.args.packets.now ++ map (to_peer c.args.peer) w) (sym done)) (omega arith)

pub returns-clause-part : goal.returns-clause-part
returns-clause-part g c = λ t. part_of_whole _ _ _ _ _ _ (returns-clause-whole g c t refl)
