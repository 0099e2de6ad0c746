use Rattle.std.proofs.Common.{◌≡◌, IsTrue}
use Rattle.hdl_lanes.specs.Lane.{put_into, SameInlet}
use Rattle.hdl_workers.proofs.worker.put_end.Given as goal

abbrev pub invariant-loop-inlet : goal.invariant-loop-inlet
invariant-loop-inlet g l = SameInlet l.initial.inlet l.inlet × (put_into l.inlet ≡ put_into l.initial.inlet)
    × (IsTrue g.C.LoopClock.is_observed → g.C.LoopClock.answers l.clock ≡ g.C.LoopClock.answers l.initial.clock)

abbrev pub decreases-loop-inlet : goal.decreases-loop-inlet
decreases-loop-inlet g l = l.turns
