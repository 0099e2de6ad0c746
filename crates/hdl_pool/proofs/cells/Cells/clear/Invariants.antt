use Rattle.hdl_pool.proofs.CellLemmas.{IsWrittenTo, none_of}
use Rattle.hdl_pool.proofs.cells.Cells.clear.Given as goal

abbrev pub invariant-loop-place : goal.invariant-loop-place
invariant-loop-place l = IsWrittenTo none_of l.initial.self l.lane l.place l.self
