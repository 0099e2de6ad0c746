use Rattle.std.proofs.Common.{◌≡◌, drop}
use Rattle.hdl_copied_handles.specs.Search.{has_words}
use Rattle.hdl_copied_handles.proofs.search.has_words.Given as goal

abbrev pub invariant-loop-word : goal.invariant-loop-word
invariant-loop-word l = has_words (drop l.word-index l.words) l.text ≡ has_words l.words l.text
