use Rattle.std.proofs.Common.{◌≡◌, drop}
use Rattle.hdl_undo.specs.Undo as said
use Rattle.hdl_undo.proofs.standing.taken.Given as goal

abbrev pub invariant-loop-index : goal.invariant-loop-index
invariant-loop-index l = said.taken l.values (drop l.index-index l.indexes) ≡ said.taken l.values l.indexes
