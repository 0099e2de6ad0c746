-- Lists of lines, and how long they are.
use Rattle.std.proofs.Common.{◌≡◌, ℕ, zero, suc, ◌+◌, ◌<◌, ◌≤◌, List, [], ◌∷◌, ◌++◌, length, get_or, take, map, refl, sym, ap, ◌∙◌, arith}
use Rattle.std.specs.Prelude.{reverse}
use Rattle.std.proofs.lemmas.List.{length-append, map-append, reverse-append, take-map}
use Rattle.hdl_value.specs.declared.value.Value.{Value}
use Rattle.hdl_history.specs.Lines.{shown, lines_text}

-- the lines up to one are no longer than all
pub longer : (vs : List Value) (i : ℕ) (d : Value) → i < length vs → length (lines_text (map shown (take i vs))) + (1 + length (shown (get_or vs i d))) ≤ length (lines_text (map shown vs))
longer [] i d lt = absurd (omega (arith, lt))
longer (v ∷ vs) zero d lt = omega (arith, length-append (shown v) (lines_text (map shown vs)))
longer (v ∷ vs) (suc i) d lt =
    let rec = longer vs i d (omega (arith, lt)) in
    omega (arith, rec, length-append (shown v) (lines_text (map shown vs)), length-append (shown v) (lines_text (map shown (take i vs))))

pub map-reverse : {A B : Type 0} (f : A → B) (xs : List A) → map f (reverse xs) ≡ reverse (map f xs)
map-reverse f [] = refl
map-reverse f (x ∷ xs) =
    ap (map f) (reverse-append (x ∷ []) xs) ∙ map-append f (reverse xs) (x ∷ [])
    ∙ ap (λ l. l ++ f x ∷ []) (map-reverse f xs) ∙ sym (reverse-append (f x ∷ []) (map f xs))

-- the first of a list in reverse
pub map-first : {A B : Type 0} (f : A → B) (count : ℕ) (xs : List A) → map f (take count (reverse xs)) ≡ take count (reverse (map f xs))
map-first f count xs = sym (take-map f count (reverse xs)) ∙ ap (take count) (map-reverse f xs)
