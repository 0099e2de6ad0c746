use Rattle.hdl_pool.proofs.CellLemmas.{IsStoring}
use Rattle.hdl_pool.proofs.cells.Cells.store.Given as goal

abbrev pub invariant-loop-place : goal.invariant-loop-place
invariant-loop-place l = IsStoring l.initial.self l.lane l.fn.first l.self l.place l.carried

abbrev pub decreases-loop-place : goal.decreases-loop-place
decreases-loop-place l = l.place
