use Rattle.std.proofs.Common.{length, take, ◌≡◌, ◌≤◌, IsTrue}
use Rattle.hdl_workers.specs.Door.{say}
use Rattle.hdl_workers.specs.Going.{StaysOpen}
use Rattle.hdl_workers.proofs.relay.write_all.Given as goal

abbrev pub invariant-loop-at : goal.invariant-loop-at
invariant-loop-at g l = record {
  within : l.at ≤ length l.octets;
  turns : l.turns ≤ l.initial.turns;
  connection : StaysOpen g.D.Door l.initial.door l.door;
  said : IsTrue g.D.Door.is_observed → g.D.Door.current l.door ≡ say (take l.at l.octets) (g.D.Door.current l.initial.door);
}

abbrev pub decreases-loop-at : goal.decreases-loop-at
decreases-loop-at g l = l.turns
