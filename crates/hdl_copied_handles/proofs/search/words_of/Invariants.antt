use Rattle.std.proofs.Common.{◌≡◌, ◌++◌, drop}
use Rattle.hdl_copied_handles.specs.Search.{words_from, words_of}
use Rattle.hdl_copied_handles.proofs.search.words_of.Given as goal

abbrev pub invariant-loop-octet : goal.invariant-loop-octet
invariant-loop-octet l = l.words.items ++ words_from l.word.items (drop l.octet-index l.text) ≡ words_of l.text
