use Rattle.std.proofs.Common.{◌≡◌, map, take}
use Rattle.hdl_core.specs.Opening.{opening_table, row_at}
use Rattle.hdl_core.proofs.opening.put_rows.Given as goal

abbrev pub invariant-loop-row : goal.invariant-loop-row
invariant-loop-row g l = g.R.Rows.content l.rows ≡ opening_table (take l.row-index (map row_at l.opening))
