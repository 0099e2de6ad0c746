use Rattle.std.proofs.Common.{◌≡◌}
use Rattle.hdl_workers.specs.WorkerLane.{put_by, taken_by, SameWorkerLane, Joins}
use Rattle.hdl_workers.proofs.relay.join_ready.Given as goal

abbrev pub invariant-loop-line : goal.invariant-loop-line
invariant-loop-line l = record {
  line : SameWorkerLane l.initial.line l.line;
  put : put_by l.line ≡ put_by l.initial.line;
  joins : Joins (taken_by l.initial.line) l.initial.joined.items (taken_by l.line) l.joined.items;
}

abbrev pub decreases-loop-line : goal.decreases-loop-line
decreases-loop-line l = l.line.waiting
