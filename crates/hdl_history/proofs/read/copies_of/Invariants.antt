use Rattle.std.proofs.Common.{◌≡◌, take, map}
use Rattle.hdl_history.proofs.read.copies_of.Given as goal

abbrev pub invariant-loop-word : goal.invariant-loop-word
invariant-loop-word l = l.lines.items ≡ map (λ word. word.now) (take l.word-index l.words)
