use Rattle.std.proofs.Common.{◌≡◌, drop}
use Rattle.hdl_copied_handles.specs.Search.{occurs}
use Rattle.hdl_copied_handles.proofs.search.occurs.Given as goal

abbrev pub invariant-loop-index : goal.invariant-loop-index
invariant-loop-index l = occurs l.word (drop l.index l.text) ≡ occurs l.word l.text
