use Rattle.std.proofs.Common.{◌≡◌, IsTrue}
use Rattle.hdl_workers.specs.WorkerLane.{put_by, taken_by, SameWorkerLane}
use Rattle.hdl_workers.proofs.packet.await_outcome.Given as goal

abbrev pub invariant-loop-line : goal.invariant-loop-line
invariant-loop-line g l = record {
  line : SameWorkerLane l.initial.line l.line;
  taken : taken_by l.line ≡ taken_by l.initial.line;
  put : put_by l.line ≡ put_by l.initial.line;
  answers : IsTrue g.C.LoopClock.is_observed → g.C.LoopClock.answers l.clock ≡ g.C.LoopClock.answers l.initial.clock;
}

abbrev pub decreases-loop-line : goal.decreases-loop-line
decreases-loop-line g l = l.line.turns
