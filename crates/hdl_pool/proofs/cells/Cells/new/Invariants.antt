use Rattle.hdl_pool.proofs.StoreLemmas.{AreEmpty}
use Rattle.hdl_pool.proofs.cells.Cells.new.Given as goal

abbrev pub invariant-loop : goal.invariant-loop
invariant-loop l = AreEmpty l.slab l.keys.items l.counter
