use Rattle.std.proofs.Common.{◌≤◌, List}
use Rattle.hdl_laws.specs.Worlds.{World}
use Rattle.hdl_workers.specs.declared.ends.LaneEnds.{LaneEnds}
use Rattle.hdl_serve.specs.declared.news.StampedChange.{StampedChange}
use Rattle.hdl_serve.specs.Rounds.{IsServing}
use Rattle.hdl_serve.proofs.rounds.serve_shares.Given as goal

abbrev pub invariant-loop-i : goal.invariant-loop-i
invariant-loop-i g l = record {
  few : l.longest ≤ l.most;
  serving : (w : World) (before : List LaneEnds) (changes : List StampedChange) → IsServing w before changes l.initial.machine.world l.initial.lanes l.initial.ended → IsServing w before changes l.machine.world l.lanes l.ended;
}
