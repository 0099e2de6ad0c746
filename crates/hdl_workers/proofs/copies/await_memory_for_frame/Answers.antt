use Rattle.std.proofs.Common.{rules, refl, ap}
use Rattle.hdl_workers.specs.WorkerLane.{taken_by}
use Rattle.hdl_workers.proofs.Writes.{if_ok, relayed_still, part_still}
use Rattle.hdl_workers.proofs.copies.await_memory_for_frame.Goals as goal

pub returns-clause-relays : goal.returns-clause-relays
returns-clause-relays g c = record {
  goes_on = record { connection = c.await_memory.ensures.connection; line = search rules };
  whole = λ t.
      if_ok c.await_memory.result (λ same. relayed_still (taken_by c.args.line.now) _ (g.D.Door.current c.args.door.now) (g.D.Door.current c.await_memory.new.door) refl (ap g.D.Door.current same)) c.await_memory.ensures.same;
  part = λ t.
      let kept = c.await_memory.ensures.kept t in
      part_still (taken_by c.args.line.now) _ (g.D.Door.current c.args.door.now) (g.D.Door.current c.await_memory.new.door) refl kept.1 kept.0;
  broken = λ t. c.await_memory.ensures.broken t;
}
