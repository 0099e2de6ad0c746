use Rattle.std.proofs.Common.{List, ◌≡◌, IsTrue, ◌++◌}
use Rattle.hdl_events.specs.declared.Outcome.{Outcome}
use Rattle.hdl_workers.specs.WorkerLane.{put_by, taken_by, SameWorkerLane}
use Rattle.hdl_workers.proofs.stream.drop_outcomes.Given as goal

abbrev pub invariant-loop-line : goal.invariant-loop-line
invariant-loop-line g l = record {
  line : SameWorkerLane l.initial.line l.line;
  taken : (more : List Outcome) × (taken_by l.line ≡ taken_by l.initial.line ++ more);
  put : put_by l.line ≡ put_by l.initial.line;
  answers : IsTrue g.C.LoopClock.is_observed → g.C.LoopClock.answers l.clock ≡ g.C.LoopClock.answers l.initial.clock;
}

abbrev pub decreases-loop-line : goal.decreases-loop-line
decreases-loop-line g l = l.line.turns
