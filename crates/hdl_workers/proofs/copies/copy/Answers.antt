use Rattle.std.proofs.Common.{rules}
use Rattle.hdl_workers.specs.WorkerLane.{taken_by}
use Rattle.hdl_workers.proofs.Writes.{relayed_both, relayed_then_part}
use Rattle.hdl_workers.proofs.copies.copy.Goals as goal

pub returns-in_err-await_memory_for_frame-clause-relays : goal.returns-in_err-await_memory_for_frame-clause-relays
returns-in_err-await_memory_for_frame-clause-relays g c = record {
  goes_on = search rules;
  whole = search rules;
  part = λ t.
      relayed_then_part _ (taken_by c.loop-line.line) _ (g.D.Door.current c.args.door.now) (g.D.Door.current c.loop-line.door) (g.D.Door.current c.await_memory_for_frame.new.door) (c.loop-line.invariant.whole t) (c.in_err-await_memory_for_frame.ensures.relays.part t);
  broken = search rules;
}

pub loop-line-preserved : goal.loop-line-preserved
loop-line-preserved g c = record {
  goes_on = search rules;
  put = search rules;
  answers = search rules;
  whole = λ t.
      relayed_both _ (taken_by c.loop-line.line) _ (g.D.Door.current c.args.door.now) (g.D.Door.current c.loop-line.door) (g.D.Door.current c.await_memory_for_frame.new.door) (c.loop-line.invariant.whole t) (c.in_ok-await_memory_for_frame.ensures.relays.whole t);
}
