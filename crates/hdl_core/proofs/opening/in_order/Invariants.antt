use Rattle.std.proofs.Common.{◌≡◌, map, take}
use Rattle.hdl_core.specs.Opening.{row_at}
use Rattle.hdl_core.proofs.opening.in_order.Given as goal

abbrev pub invariant-loop-row : goal.invariant-loop-row
invariant-loop-row l = map row_at l.rows.items ≡ take l.row-index l.opening
