use Rattle.std.proofs.Common.{◌≡◌, drop}
use Rattle.hdl_copied_handles.specs.Search.{begins}
use Rattle.hdl_copied_handles.proofs.search.begins.Given as goal

abbrev pub invariant-loop-letter : goal.invariant-loop-letter
invariant-loop-letter l = begins (drop l.letter-index l.word) l.rest ≡ begins l.word l.text
