use Rattle.std.proofs.Common.{◌≡◌, drop}
use Rattle.hdl_undo.specs.Undo as said
use Rattle.hdl_undo.proofs.standing.changed.Given as goal

abbrev pub invariant-loop-index : goal.invariant-loop-index
invariant-loop-index l = said.changed l.moment l.values (drop l.index-index l.indexes) ≡ said.changed l.moment l.values l.indexes
