use Rattle.std.proofs.Common.{◌≡◌, map}
use Rattle.hdl_boundedrows.specs.Bounded.{holding_of, holding_at_first}
use Rattle.hdl_boundedrows.proofs.bounded.BoundedRows.new.Given as goal

abbrev pub invariant-loop-bound : goal.invariant-loop-bound
invariant-loop-bound g l = record {
  unchanged : g.R.Rows.content l.rows ≡ g.R.Rows.content l.initial.rows;
  holdings : map holding_of l.accounts ≡ map (holding_at_first (g.R.Rows.content l.initial.rows)) l.yielded;
}
