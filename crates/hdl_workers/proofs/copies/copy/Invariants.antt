use Rattle.std.proofs.Common.{◌≡◌, IsTrue}
use Rattle.hdl_workers.specs.WorkerLane.{put_by, taken_by, Relayed}
use Rattle.hdl_workers.specs.Going.{GoesOn}
use Rattle.hdl_workers.proofs.copies.copy.Given as goal

abbrev pub invariant-loop-line : goal.invariant-loop-line
invariant-loop-line g l = record {
  goes_on : GoesOn g.D.Door l.initial.door l.initial.line l.door l.line;
  put : put_by l.line ≡ put_by l.initial.line;
  answers : IsTrue g.C.LoopClock.is_observed → g.C.LoopClock.answers l.clock ≡ g.C.LoopClock.answers l.initial.clock;
  whole : IsTrue g.D.Door.is_observed → Relayed (taken_by l.initial.line) (g.D.Door.current l.initial.door) (taken_by l.line) (g.D.Door.current l.door);
}

abbrev pub decreases-loop-line : goal.decreases-loop-line
decreases-loop-line g l = l.line.turns
