-- The lines of a text have no line feed.
use Rattle.std.proofs.Common.{◌≡◌, ℕ, zero, suc, ◌-◌, ◌==◌, Bool, true, false, cond, List, [], ◌∷◌, ◌++◌, length, take, refl}
use Rattle.std.specs.Prelude.{filter, slice_index}
use Rattle.std.specs.List.{AllByRecursion, slice_split, onto_first}
use Rattle.std.specs.Str.Lines.{lines, lines_of_parts, strip_carriage_return}
use Rattle.hdl_export.specs.Lines.{Lacks}

abbrev AllLack : List (List ℕ) → Type 0
AllLack parts = AllByRecursion (Lacks 10) parts

onto_lacks : (x : ℕ) (parts : List (List ℕ)) → (x == 10) ≡ false → AllLack parts → AllLack (onto_first x parts)
onto_lacks x [] h k = ((h, tt), tt)
onto_lacks x (part ∷ parts) h k = ((h, k.0), k.1)

parts_lack : (xs : List ℕ) → AllLack (slice_split (λ b. b == 10) xs)
parts_lack [] = (tt, tt)
parts_lack (x ∷ xs) = by (x == 10) refl (parts_lack xs)
  where
    by : (b : Bool) → (x == 10) ≡ b → AllLack (slice_split (λ b. b == 10) xs) → AllLack (cond b ([] ∷ slice_split (λ b. b == 10) xs) (onto_first x (slice_split (λ b. b == 10) xs)))
    by true t later = (tt, later)
    by false t later = onto_lacks x (slice_split (λ b. b == 10) xs) t later

take_lacks : (n : ℕ) (xs : List ℕ) → Lacks 10 xs → Lacks 10 (take n xs)
take_lacks zero xs h = tt
take_lacks (suc n) [] h = tt
take_lacks (suc n) (x ∷ xs) h = (h.0, take_lacks n xs h.1)

strip_lacks : (line : List ℕ) → Lacks 10 line → Lacks 10 (strip_carriage_return line)
strip_lacks line h = by (slice_index line (length line - 1) == 13)
  where
    by : (b : Bool) → Lacks 10 (cond b (take (length line - 1) line) line)
    by true = take_lacks (length line - 1) line h
    by false = h

last_lacks : (x : List ℕ) → Lacks 10 x → (b : Bool) → AllLack (cond b [] (x ∷ []))
last_lacks x h true = tt
last_lacks x h false = (h, tt)

lines_lack_of : (parts : List (List ℕ)) → AllLack parts → AllLack (lines_of_parts parts)
lines_lack_of [] h = tt
lines_lack_of (x ∷ []) h = last_lacks x h.0 (length x == 0)
lines_lack_of (x ∷ y ∷ more) h = (strip_lacks x h.0, lines_lack_of (y ∷ more) h.1)

pub lines_lack : (text : List ℕ) → AllByRecursion (Lacks 10) (lines text)
lines_lack text = lines_lack_of (slice_split (λ b. b == 10) text) (parts_lack text)

pub all_filtered : {X : Type 0} (P : X → Type 0) (p : X → Bool) (xs : List X) → AllByRecursion P xs → AllByRecursion P (filter p xs)
all_filtered P p [] h = tt
all_filtered P p (x ∷ xs) h = by (p x) (all_filtered P p xs h.1)
  where
    by : (b : Bool) → AllByRecursion P (filter p xs) → AllByRecursion P (cond b (x ∷ filter p xs) (filter p xs))
    by true later = (h.0, later)
    by false later = later

pub all_joined : {X : Type 0} (P : X → Type 0) (xs ys : List X) → AllByRecursion P xs → AllByRecursion P ys → AllByRecursion P (xs ++ ys)
all_joined P [] ys h k = k
all_joined P (x ∷ xs) ys h k = (h.0, all_joined P xs ys h.1 k)
