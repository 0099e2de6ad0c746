use Rattle.hdl_workers.specs.WorkerLane.{taken_by}
use Rattle.hdl_workers.proofs.Writes.{joins_then}
use Rattle.hdl_workers.proofs.relay.join.Goals as goal

pub returns-clause-joined : goal.returns-clause-joined
returns-clause-joined g c =
    joins_then c.join_ready-2.result (taken_by c.args.line.now) (taken_by c.join_ready.new.line) (taken_by c.join_ready-2.new.line) c.args.joined.now.items c.join_ready.new.joined.items c.join_ready-2.new.joined.items
    (rw c.in_default.is at c.join_ready.ensures.joined) c.join_ready-2.ensures.joined
