use Rattle.std.proofs.Common.{rules, ap, refl}
use Rattle.hdl_workers.proofs.Used.{stamps_both, stamps_still}
use Rattle.hdl_workers.proofs.Talks.{all_cut, waiting_on, all_on, waiting_cut, all_relay_cut, waiting_all, heard_on, heard_cut}
use Rattle.hdl_workers.proofs.stream.converse.Goals as goal

pub returns-in_err-await_outcomes-clause-cut : goal.returns-in_err-await_outcomes-clause-cut
returns-in_err-await_outcomes-clause-cut g c = λ t.
    waiting_cut _ _ (g.D.Door.current c.args.door.now) (g.D.Door.current c.await_outcomes.new.door) _ _ _ _ _
    (c.requires.talk t) c.await_outcomes.ensures.put (c.await_outcomes.ensures.relays.part t) (c.await_outcomes.ensures.relays.goes_on.connection.ended t)

pub loop-intake-init : goal.loop-intake-init
loop-intake-init g c = record {
  goes_on = search rules;
  sound = search rules;
  stamps = stamps_still _ _ _ _ c.await_outcomes.ensures.answers (λ _. refl) c.await_outcomes.ensures.put;
  settled = search rules;
  talk = λ t.
      rw c.new-intake.ensures.empty
      (waiting_on _ _ (g.D.Door.current c.args.door.now) (g.D.Door.current c.await_outcomes.new.door) _ _ _ _ _
      (c.requires.talk t) c.await_outcomes.ensures.put (c.in_ok-await_outcomes.ensures.relays.whole t) (c.await_outcomes.ensures.relays.goes_on.connection.ended t));
}

pub returns-in_err-hear-clause-cut : goal.returns-in_err-hear-clause-cut
returns-in_err-hear-clause-cut g c = λ t.
    let heard = c.hear.ensures.heard t in
    heard_cut _ _ (g.D.Door.current c.loop-intake.door) (g.D.Door.current c.hear.new.door) _ _ _ heard.0
    (c.loop-intake.invariant.talk t) heard.1 heard.2 (c.hear.ensures.connection.ended t)

pub returns-in_err-await_outcomes-2-clause-cut : goal.returns-in_err-await_outcomes-2-clause-cut
returns-in_err-await_outcomes-2-clause-cut g c = λ t.
    all_relay_cut _ _ (g.D.Door.current c.submit_frames.new.door) (g.D.Door.current c.await_outcomes-then-faulty.new.door) _ _ _ _
    (c.in_ok-faulty.ensures.stops t c.if-faulty.true) c.await_outcomes-then-faulty.ensures.put (c.await_outcomes-then-faulty.ensures.relays.part t) (c.await_outcomes-then-faulty.ensures.relays.goes_on.connection.ended t)

pub returns-in_err-await_outcomes-3-clause-cut : goal.returns-in_err-await_outcomes-3-clause-cut
returns-in_err-await_outcomes-3-clause-cut g c = λ t.
    waiting_cut _ _ (g.D.Door.current c.submit_frames.new.door) (g.D.Door.current c.await_outcomes-in-loop-intake.new.door) _ _ _ _ _
    (c.in_ok-faulty.ensures.waits t c.if-faulty.false) c.await_outcomes-in-loop-intake.ensures.put (c.await_outcomes-in-loop-intake.ensures.relays.part t) (c.await_outcomes-in-loop-intake.ensures.relays.goes_on.connection.ended t)

pub returns-then-faulty-clause-whole : goal.returns-then-faulty-clause-whole
returns-then-faulty-clause-whole g c = λ t.
    all_on _ _ (g.D.Door.current c.submit_frames.new.door) (g.D.Door.current c.await_outcomes-then-faulty.new.door) _ _ _ _
    (c.in_ok-faulty.ensures.stops t c.if-faulty.true) c.await_outcomes-then-faulty.ensures.put (c.in_ok-await_outcomes-2.ensures.relays.whole t) (c.await_outcomes-then-faulty.ensures.relays.goes_on.connection.ended t)

pub returns-then-faulty-clause-cut : goal.returns-then-faulty-clause-cut
returns-then-faulty-clause-cut g c = λ t. all_cut _ (g.D.Door.current c.await_outcomes-then-faulty.new.door) _ _ (returns-then-faulty-clause-whole g c t)

pub loop-intake-preserved : goal.loop-intake-preserved
loop-intake-preserved g c = record {
  goes_on = search rules;
  sound = search rules;
  stamps = stamps_both _ _ _ _ _ (stamps_both _ _ _ _ _ c.loop-intake.invariant.stamps (stamps_still _ _ _ _ c.hear.ensures.answers (λ _. refl) refl)) (stamps_both _ _ _ _ _ c.submit_frames.ensures.stamps (stamps_still _ _ _ _ c.await_outcomes-in-loop-intake.ensures.answers (λ _. refl) c.await_outcomes-in-loop-intake.ensures.put));
  settled = search rules;
  talk = λ t.
      waiting_on _ _ (g.D.Door.current c.submit_frames.new.door) (g.D.Door.current c.await_outcomes-in-loop-intake.new.door) _ _ _ _ _
      (c.in_ok-faulty.ensures.waits t c.if-faulty.false) c.await_outcomes-in-loop-intake.ensures.put (c.in_ok-await_outcomes-3.ensures.relays.whole t) (c.await_outcomes-in-loop-intake.ensures.relays.goes_on.connection.ended t);
}

pub returns-clause-whole : goal.returns-clause-whole
returns-clause-whole g c = λ t.
    let closed = c.in_ok-hear.ensures.closed t c.if-branch.false in
    rw (c.hear.ensures.connection.ended t, closed.0) (waiting_all _ (g.D.Door.current c.loop-intake.door) _ _ _ (c.loop-intake.invariant.talk t))

pub returns-clause-cut : goal.returns-clause-cut
returns-clause-cut g c = λ t. all_cut _ (g.D.Door.current c.hear.new.door) _ _ (returns-clause-whole g c t)

pub submit_frames-requires : goal.submit_frames-requires
submit_frames-requires g c =
    record {
      sound = c.in_ok-hear.ensures.sound;
      talk = λ t.
          let heard = c.in_ok-hear.ensures.came t c.if-branch.true in
          heard_on _ _ (g.D.Door.current c.loop-intake.door) (g.D.Door.current c.hear.new.door) _ _ _ _ heard.0
          (c.loop-intake.invariant.talk t) heard.1 (ap (λ h. h.rest) heard.2) (c.hear.ensures.connection.ended t);
    }

pub returns-in_err-await_outcomes-clause-stamps : goal.returns-in_err-await_outcomes-clause-stamps
returns-in_err-await_outcomes-clause-stamps g c = stamps_still _ _ _ _ c.await_outcomes.ensures.answers (λ _. refl) c.await_outcomes.ensures.put

pub returns-in_err-faulty-clause-stamps : goal.returns-in_err-faulty-clause-stamps
returns-in_err-faulty-clause-stamps g c = stamps_both _ _ _ _ _ (stamps_both _ _ _ _ _ c.loop-intake.invariant.stamps (stamps_still _ _ _ _ c.hear.ensures.answers (λ _. refl) refl)) c.submit_frames.ensures.stamps

pub returns-in_err-await_outcomes-2-clause-stamps : goal.returns-in_err-await_outcomes-2-clause-stamps
returns-in_err-await_outcomes-2-clause-stamps g c =
    stamps_both _ _ _ _ _ (stamps_both _ _ _ _ _ c.loop-intake.invariant.stamps (stamps_still _ _ _ _ c.hear.ensures.answers (λ _. refl) refl)) (stamps_both _ _ _ _ _ c.submit_frames.ensures.stamps (stamps_still _ _ _ _ c.await_outcomes-then-faulty.ensures.answers (λ _. refl) c.await_outcomes-then-faulty.ensures.put))

pub returns-in_err-await_outcomes-3-clause-stamps : goal.returns-in_err-await_outcomes-3-clause-stamps
returns-in_err-await_outcomes-3-clause-stamps g c =
    stamps_both _ _ _ _ _ (stamps_both _ _ _ _ _ c.loop-intake.invariant.stamps (stamps_still _ _ _ _ c.hear.ensures.answers (λ _. refl) refl)) (stamps_both _ _ _ _ _ c.submit_frames.ensures.stamps (stamps_still _ _ _ _ c.await_outcomes-in-loop-intake.ensures.answers (λ _. refl) c.await_outcomes-in-loop-intake.ensures.put))

pub returns-then-faulty-clause-stamps : goal.returns-then-faulty-clause-stamps
returns-then-faulty-clause-stamps g c =
    stamps_both _ _ _ _ _ (stamps_both _ _ _ _ _ c.loop-intake.invariant.stamps (stamps_still _ _ _ _ c.hear.ensures.answers (λ _. refl) refl)) (stamps_both _ _ _ _ _ c.submit_frames.ensures.stamps (stamps_still _ _ _ _ c.await_outcomes-then-faulty.ensures.answers (λ _. refl) c.await_outcomes-then-faulty.ensures.put))
