use Rattle.hdl_pool.proofs.CellLemmas.{fours_new}
use Rattle.hdl_pool.proofs.pool.Pool.new.Goals as goal

pub invariant_of-result : goal.invariant_of-result
invariant_of-result c = rw c.in_ok-cells.ensures fours_new
