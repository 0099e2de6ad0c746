use Rattle.std.proofs.Common.{◌≡◌, length, IsTrue, None}
use Rattle.hdl_workers.specs.WorkerLane.{put_by, taken_by}
use Rattle.hdl_workers.specs.Stamps.{StampsUsed}
use Rattle.hdl_workers.specs.Talk.{Waiting, Underway}
use Rattle.hdl_workers.specs.Going.{GoesOn}
use Rattle.hdl_workers.proofs.stream.converse.Given as goal

abbrev pub invariant-loop-intake : goal.invariant-loop-intake
invariant-loop-intake g l = record {
  goes_on : GoesOn g.D.Door l.fn.door l.fn.line l.door l.line;
  sound : l.intake.cutter.fault ≡ None;
  stamps : StampsUsed g.C.LoopClock g.N.Nonces (l.fn.clock, l.fn.nonces, put_by l.fn.line) (l.clock, l.nonces, put_by l.line);
  settled : length (taken_by l.line) ≡ length (put_by l.line);
  talk : IsTrue g.D.Door.is_observed → Underway (Waiting l.intake.cutter.rest) (g.D.Door.ended l.door) (g.D.Door.current l.door) (put_by l.line) (taken_by l.line);
}

abbrev pub decreases-loop-intake : goal.decreases-loop-intake
decreases-loop-intake g l = l.line.turns
