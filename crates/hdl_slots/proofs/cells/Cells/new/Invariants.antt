use Rattle.hdl_slots.proofs.Table.{IsNewTable}
use Rattle.hdl_slots.proofs.cells.Cells.new.Given as goal

abbrev pub invariant-loop-lane : goal.invariant-loop-lane
invariant-loop-lane l = IsNewTable l.slab l.keys.items l.lane
