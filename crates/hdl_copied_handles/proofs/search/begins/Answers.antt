use Rattle.std.proofs.Common.{◌≡◌, ◌∙◌, ◌<◌, refl, sym, ℕ, false, List, [], ◌∷◌, length, drop, drop-cons, arith}
use Rattle.hdl_copied_handles.specs.Search.{begins}
use Rattle.hdl_copied_handles.proofs.search.begins.Goals as goal

-- a word of which letters are left isn't at the front of nothing
no_text : (word rest : List ℕ) (i : ℕ) → i < length word → length rest ≡ 0 → begins (drop i word) rest ≡ false
no_text word [] i less none = rw (drop-cons word i 0 less) refl
no_text word (first ∷ rest) i less none = absurd (omega (arith, none))

pub returns-in_default : goal.returns-in_default
returns-in_default c =
    sym (no_text c.args.word.now c.loop-letter.rest.now c.loop-letter.letter-index c.loop-letter-test.true c.in_default.ensures.cases) ∙ c.loop-letter.invariant
