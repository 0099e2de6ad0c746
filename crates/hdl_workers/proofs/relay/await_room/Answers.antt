use Rattle.std.proofs.Common.{rules}
use Rattle.hdl_workers.specs.WorkerLane.{taken_by, Relayed, RelayedPart}
use Rattle.hdl_workers.proofs.Writes.{relayed_both, relayed_then_part}
use Rattle.hdl_workers.proofs.relay.await_room.Goals as goal

pub returns-in_err-relay-clause-relays : goal.returns-in_err-relay-clause-relays
returns-in_err-relay-clause-relays g c = record {
  goes_on = search rules;
  whole = search rules;
  part = λ t.
      let step : RelayedPart (taken_by c.loop-line.line) (g.D.Door.current c.loop-line.door) (taken_by c.relay.new.line) (g.D.Door.current c.relay.new.door) =
      rw (← c.has_room.ensures.taken) (c.in_err-relay.ensures.relays.part t) in
      relayed_then_part _ (taken_by c.loop-line.line) _ (g.D.Door.current c.args.door.now) (g.D.Door.current c.loop-line.door) (g.D.Door.current c.relay.new.door) (c.loop-line.invariant.whole t) step;
  broken = search rules;
}

pub loop-line-preserved : goal.loop-line-preserved
loop-line-preserved g c = record {
  goes_on = search rules;
  put = search rules;
  answers = search rules;
  whole = λ t.
      let step : Relayed (taken_by c.loop-line.line) (g.D.Door.current c.loop-line.door) (taken_by c.relay.new.line) (g.D.Door.current c.relay.new.door) =
      rw (← c.has_room.ensures.taken) (c.in_ok-relay.ensures.relays.whole t) in
      relayed_both _ (taken_by c.loop-line.line) _ (g.D.Door.current c.args.door.now) (g.D.Door.current c.loop-line.door) (g.D.Door.current c.relay.new.door) (c.loop-line.invariant.whole t) step;
}
