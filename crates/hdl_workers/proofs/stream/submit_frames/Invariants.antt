use Rattle.std.proofs.Common.{◌≡◌, IsTrue, None}
use Rattle.hdl_workers.specs.WorkerLane.{put_by, taken_by}
use Rattle.hdl_workers.specs.Stamps.{StampsUsed}
use Rattle.hdl_workers.specs.Talk.{FramesSoFar, Underway}
use Rattle.hdl_workers.specs.Going.{GoesOn}
use Rattle.hdl_workers.proofs.stream.submit_frames.Given as goal

abbrev pub invariant-loop-line : goal.invariant-loop-line
invariant-loop-line g l = record {
  goes_on : GoesOn g.D.Door l.initial.door l.initial.line l.door l.line;
  sound : l.cutter.fault ≡ None;
  stamps : StampsUsed g.C.LoopClock g.N.Nonces (l.initial.clock, l.initial.nonces, put_by l.initial.line) (l.clock, l.nonces, put_by l.line);
  talk : IsTrue g.D.Door.is_observed → Underway (FramesSoFar l.cutter.rest) (g.D.Door.ended l.door) (g.D.Door.current l.door) (put_by l.line) (taken_by l.line);
}

abbrev pub decreases-loop-line : goal.decreases-loop-line
decreases-loop-line g l = l.line.turns
