use Rattle.std.proofs.Common.{◌≡◌, ℕ, ◌++◌, List, Some, drop, map}
use Rattle.hdl_value.specs.Reading.{◌>>=◌}
use Rattle.hdl_history.specs.Fields.{numbers_in}
use Rattle.hdl_history.proofs.read.numbers_in.Given as goal

abbrev pub invariant-loop-word : goal.invariant-loop-word
invariant-loop-word l = numbers_in (map (λ word. word.now) l.words) ≡ (numbers_in (map (λ word. word.now) (drop l.word-index l.words)) >>= λ (ns : List ℕ). Some (l.indexes.items ++ ns))
