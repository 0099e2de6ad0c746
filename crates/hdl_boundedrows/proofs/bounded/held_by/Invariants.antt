use Rattle.std.proofs.Common.{◌≡◌, take}
use Rattle.hdl_boundedrows.specs.Amount.{in_handles, in_values, in_octets}
use Rattle.hdl_boundedrows.specs.Bounded as counted
use Rattle.hdl_limits.specs.Counts.{at_most_u64}
use Rattle.hdl_boundedrows.proofs.bounded.held_by.Given as goal

abbrev pub invariant-loop-root : goal.invariant-loop-root
invariant-loop-root g l = record {
  unchanged : g.R.Rows.content l.rows ≡ g.R.Rows.content l.initial.rows;
  handles : l.sum.handles ≡ at_most_u64 (counted.held_by in_handles (g.R.Rows.content l.initial.rows) (take l.root-index l.roots));
  values : l.sum.amount.values ≡ at_most_u64 (counted.held_by in_values (g.R.Rows.content l.initial.rows) (take l.root-index l.roots));
  octets : l.sum.amount.octets ≡ at_most_u64 (counted.held_by in_octets (g.R.Rows.content l.initial.rows) (take l.root-index l.roots));
}
