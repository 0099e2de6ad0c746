use Rattle.std.proofs.Common.{rules, refl, ap}
use Rattle.hdl_frame.specs.Held.{Held}
use Rattle.hdl_workers.proofs.Talks.{far_on, far_waits, framed_on, some_cut, fault_on, all_cut, far_cut}
use Rattle.hdl_workers.proofs.Used.{stamps_both, stamps_still}
use Rattle.hdl_workers.specs.Found.{Finds}
use Rattle.hdl_workers.specs.declared.stream.Found.TheVariants.{Whole, Fault, Nothing}
use Rattle.hdl_workers.proofs.stream.submit_frames.Goals as goal

pub loop-line-preserved : goal.loop-line-preserved
loop-line-preserved g c =
    let f : Finds c.loop-line.cutter (Whole c.in-Whole.bytes) c.find.new.cutter = rw c.in-Whole.is at c.in_ok-bytes.ensures.found in
    record {
      goes_on = search rules;
      sound = f.2;
      stamps = stamps_both _ _ _ _ _ c.loop-line.invariant.stamps (stamps_both _ _ _ _ _ (stamps_still _ _ _ _ c.find.ensures.answers (λ _. refl) c.find.ensures.put) c.submit_frame.ensures.stamps);
      talk = λ t.
          framed_on _ _ (g.D.Door.current c.find.new.door) (g.D.Door.current c.submit_frame.new.door) _ _ _ _ _ _ _
          (far_on _ _ (g.D.Door.current c.loop-line.door) (g.D.Door.current c.find.new.door) _ _ _ _ _
          (c.loop-line.invariant.talk t) c.find.ensures.put (c.in_ok-bytes.ensures.relays.whole t) (c.find.ensures.relays.goes_on.connection.ended t)) f.1 f.0 c.in_ok-submit_frame-in-Whole.ensures.put (c.in_ok-submit_frame-in-Whole.ensures.relays.whole t) (c.submit_frame.ensures.relays.goes_on.connection.ended t);
    }

pub returns-in_err-bytes-clause-cut : goal.returns-in_err-bytes-clause-cut
returns-in_err-bytes-clause-cut g c = λ t.
    some_cut _ _ (g.D.Door.current c.loop-line.door) (g.D.Door.current c.find.new.door) _ _ _ _ _
    (c.loop-line.invariant.talk t) c.find.ensures.put (c.find.ensures.relays.part t) (c.find.ensures.relays.goes_on.connection.ended t)

pub returns-in-Nothing-clause-waits : goal.returns-in-Nothing-clause-waits
returns-in-Nothing-clause-waits g c = λ t _.
    let f : Finds c.loop-line.cutter Nothing c.find.new.cutter = rw c.in-Nothing.is at c.in_ok-bytes.ensures.found in
    far_waits _ (g.D.Door.current c.find.new.door) _ _ _ _
    (far_on _ _ (g.D.Door.current c.loop-line.door) (g.D.Door.current c.find.new.door) _ _ _ _ _
    (c.loop-line.invariant.talk t) c.find.ensures.put (c.in_ok-bytes.ensures.relays.whole t) (c.find.ensures.relays.goes_on.connection.ended t)) f.0 f.1 (ap (λ (h : Held). h.rest) f.2)

pub returns-in-Nothing-clause-cut : goal.returns-in-Nothing-clause-cut
returns-in-Nothing-clause-cut g c = λ t. far_cut _ (g.D.Door.current c.find.new.door) _ _ _
    (far_on _ _ (g.D.Door.current c.loop-line.door) (g.D.Door.current c.find.new.door) _ _ _ _ _
    (c.loop-line.invariant.talk t) c.find.ensures.put (c.in_ok-bytes.ensures.relays.whole t) (c.find.ensures.relays.goes_on.connection.ended t))

pub returns-in_err-submit_frame-in-Whole-clause-cut : goal.returns-in_err-submit_frame-in-Whole-clause-cut
returns-in_err-submit_frame-in-Whole-clause-cut g c = λ t.
    some_cut _ _ (g.D.Door.current c.find.new.door) (g.D.Door.current c.submit_frame.new.door) _ _ _ _ _
    (far_on _ _ (g.D.Door.current c.loop-line.door) (g.D.Door.current c.find.new.door) _ _ _ _ _
    (c.loop-line.invariant.talk t) c.find.ensures.put (c.in_ok-bytes.ensures.relays.whole t) (c.find.ensures.relays.goes_on.connection.ended t)) (c.in_err-submit_frame-in-Whole.ensures.unchanged) (c.submit_frame.ensures.relays.part t) (c.submit_frame.ensures.relays.goes_on.connection.ended t)

pub returns-in_err-submit_fault-in-Fault-clause-cut : goal.returns-in_err-submit_fault-in-Fault-clause-cut
returns-in_err-submit_fault-in-Fault-clause-cut g c = λ t.
    some_cut _ _ (g.D.Door.current c.find.new.door) (g.D.Door.current c.submit_fault.new.door) _ _ _ _ _
    (far_on _ _ (g.D.Door.current c.loop-line.door) (g.D.Door.current c.find.new.door) _ _ _ _ _
    (c.loop-line.invariant.talk t) c.find.ensures.put (c.in_ok-bytes.ensures.relays.whole t) (c.find.ensures.relays.goes_on.connection.ended t)) (c.in_err-submit_fault-in-Fault.ensures.unchanged) (c.submit_fault.ensures.relays.part t) (c.submit_fault.ensures.relays.goes_on.connection.ended t)

pub returns-in-Fault-clause-stops : goal.returns-in-Fault-clause-stops
returns-in-Fault-clause-stops g c = λ t _.
    let f : Finds c.loop-line.cutter (Fault c.in-Fault.session c.in-Fault.request) c.find.new.cutter = rw c.in-Fault.is at c.in_ok-bytes.ensures.found in
    fault_on _ _ (g.D.Door.current c.find.new.door) (g.D.Door.current c.submit_fault.new.door) _ _ _ _ _ c.in-Fault.session c.in-Fault.request
    (far_on _ _ (g.D.Door.current c.loop-line.door) (g.D.Door.current c.find.new.door) _ _ _ _ _
    (c.loop-line.invariant.talk t) c.find.ensures.put (c.in_ok-bytes.ensures.relays.whole t) (c.find.ensures.relays.goes_on.connection.ended t)) f.0 f.1 c.in_ok-submit_fault-in-Fault.ensures.put (c.in_ok-submit_fault-in-Fault.ensures.relays.whole t) (c.submit_fault.ensures.relays.goes_on.connection.ended t)

pub returns-in-Fault-clause-cut : goal.returns-in-Fault-clause-cut
returns-in-Fault-clause-cut g c = λ t. all_cut _ (g.D.Door.current c.submit_fault.new.door) _ _ (returns-in-Fault-clause-stops g c t refl)

pub returns-in_err-submit_frame-in-Whole-clause-stamps : goal.returns-in_err-submit_frame-in-Whole-clause-stamps
returns-in_err-submit_frame-in-Whole-clause-stamps g c =
    stamps_both _ _ _ _ _ c.loop-line.invariant.stamps (stamps_both _ _ _ _ _ (stamps_still _ _ _ _ c.find.ensures.answers (λ _. refl) c.find.ensures.put) c.submit_frame.ensures.stamps)
