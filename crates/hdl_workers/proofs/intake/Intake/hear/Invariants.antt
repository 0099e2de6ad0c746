use Rattle.std.proofs.Common.{◌≡◌, ◌≤◌, IsTrue}
use Rattle.hdl_workers.proofs.intake.Intake.hear.Given as goal

abbrev pub invariant-loop-turns : goal.invariant-loop-turns
invariant-loop-turns g l = record {
  turns : l.turns ≤ l.initial.turns;
  intake : l.self ≡ l.initial.self;
  door : l.door ≡ l.initial.door;
  answers : IsTrue g.C.LoopClock.is_observed → g.C.LoopClock.answers l.clock ≡ g.C.LoopClock.answers l.initial.clock;
}

abbrev pub decreases-loop-turns : goal.decreases-loop-turns
decreases-loop-turns g l = l.turns
