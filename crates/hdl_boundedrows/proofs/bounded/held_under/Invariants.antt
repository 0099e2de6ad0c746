use Rattle.std.proofs.Common.{◌≡◌, ◌+◌, sum_by, take}
use Rattle.hdl_boundedrows.specs.Amount.{in_handles, in_values, in_octets}
use Rattle.hdl_boundedrows.specs.Bounded as counted
use Rattle.hdl_limits.specs.Counts.{at_most_u64}
use Rattle.hdl_boundedrows.proofs.bounded.held_under.Given as goal

abbrev pub invariant-loop-handle : goal.invariant-loop-handle
invariant-loop-handle g l = record {
  unchanged : g.R.Rows.content l.rows ≡ g.R.Rows.content l.initial.rows;
  handles : l.sum.handles ≡ at_most_u64 (counted.held_at_root in_handles (g.R.Rows.content l.initial.rows) l.root + sum_by (counted.held_at in_handles (g.R.Rows.content l.initial.rows)) (take l.handle-index l.handle-items));
  values : l.sum.amount.values ≡ at_most_u64 (counted.held_at_root in_values (g.R.Rows.content l.initial.rows) l.root + sum_by (counted.held_at in_values (g.R.Rows.content l.initial.rows)) (take l.handle-index l.handle-items));
  octets : l.sum.amount.octets ≡ at_most_u64 (counted.held_at_root in_octets (g.R.Rows.content l.initial.rows) l.root + sum_by (counted.held_at in_octets (g.R.Rows.content l.initial.rows)) (take l.handle-index l.handle-items));
}
