use Rattle.hdl_pool.proofs.CellLemmas.{IsWrittenTo, freed_of}
use Rattle.hdl_pool.proofs.cells.Cells.free.Given as goal

abbrev pub invariant-loop-place : goal.invariant-loop-place
invariant-loop-place l = IsWrittenTo (freed_of l.key) l.initial.self l.lane l.place l.self
