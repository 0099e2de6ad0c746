use Rattle.std.proofs.Common.{◌≡◌, ◌≤◌, length, IsTrue}
use Rattle.hdl_workers.specs.WorkerLane.{put_by, taken_by, SameWorkerLane}
use Rattle.hdl_workers.specs.Stamps.{StampsUsed}
use Rattle.hdl_workers.specs.Talk.{History}
use Rattle.hdl_workers.proofs.stream.serve_door.Given as goal

abbrev pub invariant-loop-door : goal.invariant-loop-door
invariant-loop-door g l = record {
  faults : g.D.Door.fault_count l.fn.door ≤ g.D.Door.fault_count l.door;
  line : SameWorkerLane l.fn.line l.line;
  stamps : StampsUsed g.C.LoopClock g.N.Nonces (l.fn.clock, l.fn.nonces, put_by l.fn.line) (l.clock, l.nonces, put_by l.line);
  settled : length (taken_by l.line) ≡ length (put_by l.line);
  history : IsTrue g.D.Door.is_observed → History (g.D.Door.ended l.door) (put_by l.line) (taken_by l.line);
}

abbrev pub decreases-loop-door : goal.decreases-loop-door
decreases-loop-door g l = l.line.turns
