use Rattle.std.proofs.Common.{◌≡◌, ◌<◌, length, All}
use Rattle.hdl_workers.specs.Ends.{AreDistinct, AreLanes}
use Rattle.hdl_workers.proofs.sides.lanes_of.Given as goal

abbrev pub invariant-loop-number : goal.invariant-loop-number
invariant-loop-number l = record {
  distinct : AreDistinct l.ends.items;
  below : All (λ e. e.lane < l.number) l.ends.items;
  lanes : AreLanes 0 l.ends.items l.sides.items;
  count : length l.ends.items ≡ l.number;
}
