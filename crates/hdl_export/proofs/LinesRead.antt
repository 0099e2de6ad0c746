-- Lines that are written with their ends are read back.
use Rattle.std.proofs.Common.{◌≡◌, ℕ, ◌-◌, ◌==◌, Bool, true, false, cond, List, [], ◌∷◌, ◌++◌, length, refl, sym, ap, ◌∙◌, append_assoc, arith}
use Rattle.std.specs.Prelude.{slice_index}
use Rattle.std.specs.List.{AllByRecursion, slice_split, onto_first}
use Rattle.std.specs.Str.Lines.{lines, lines_of_parts, strip_carriage_return}
use Rattle.std.proofs.lemmas.List.{length-append}
use Rattle.std.proofs.Math.Seq.{get_or-append_seam, take-append_seam}
use Rattle.hdl_export.specs.Lines.{Lacks, ends_with_return, with_line_end, text_of}

-- the parts between octets that pass: there is a first one
abbrev HasFirst : List (List ℕ) → Type 0
HasFirst parts = (first : List ℕ) × (more : List (List ℕ)) × (parts ≡ first ∷ more)

onto_has : (x : ℕ) (parts : List (List ℕ)) → HasFirst (onto_first x parts)
onto_has x [] = (x ∷ [], [], refl)
onto_has x (part ∷ parts) = (x ∷ part, parts, refl)

split_has : (p : ℕ → Bool) (xs : List ℕ) → HasFirst (slice_split p xs)
split_has p [] = ([], [], refl)
split_has p (x ∷ xs) = by (p x)
  where
    by : (b : Bool) → HasFirst (cond b ([] ∷ slice_split p xs) (onto_first x (slice_split p xs)))
    by true = ([], slice_split p xs, refl)
    by false = onto_has x (slice_split p xs)

pub split_at : (stop : ℕ) (word rest : List ℕ) → (stop == stop) ≡ true → Lacks stop word → slice_split (λ b. b == stop) (word ++ stop ∷ rest) ≡ word ∷ slice_split (λ b. b == stop) rest
split_at stop [] rest same h = rw same refl
split_at stop (octet ∷ word) rest same h = rw (h.0, split_at stop word rest same h.1) refl

pub split_last : (stop : ℕ) (word : List ℕ) → Lacks stop word → slice_split (λ b. b == stop) word ≡ word ∷ []
split_last stop [] h = refl
split_last stop (octet ∷ word) h = rw (h.0, split_last stop word h.1) refl

pub lacks_joined : (stop : ℕ) (a b : List ℕ) → Lacks stop a → Lacks stop b → Lacks stop (a ++ b)
lacks_joined stop [] b h k = k
lacks_joined stop (octet ∷ a) b h k = (h.0, lacks_joined stop a b h.1 k)

-- the lines of a first part and of what follows
lines_of_first : (x : List ℕ) (parts : List (List ℕ)) → HasFirst parts → lines_of_parts (x ∷ parts) ≡ strip_carriage_return x ∷ lines_of_parts parts
lines_of_first x parts h = rw h.2 refl

stripped : (line : List ℕ) → strip_carriage_return (line ++ 13 ∷ []) ≡ line
stripped line =
    let long : length (line ++ 13 ∷ []) - 1 ≡ length line = omega (arith, length-append line (13 ∷ [])) in
    let last : slice_index (line ++ 13 ∷ []) (length line) ≡ 13 = get_or-append_seam line 13 [] 0 in
    rw long (rw last (take-append_seam line (13 ∷ [])))

first_line : (line rest : List ℕ) → Lacks 10 line → lines (with_line_end line ++ rest) ≡ line ∷ lines rest
first_line line rest h = by (ends_with_return line) refl
  where
    by : (b : Bool) → ends_with_return line ≡ b → lines (with_line_end line ++ rest) ≡ line ∷ lines rest
    by true t =
        let shape : with_line_end line ++ rest ≡ (line ++ 13 ∷ []) ++ 10 ∷ rest = rw t (append_assoc line (13 ∷ 10 ∷ []) rest ∙ sym (append_assoc line (13 ∷ []) (10 ∷ rest))) in
        let lacks = lacks_joined 10 line (13 ∷ []) h (refl, tt) in
        ap lines shape
        ∙ ap lines_of_parts (split_at 10 (line ++ 13 ∷ []) rest refl lacks)
        ∙ lines_of_first (line ++ 13 ∷ []) (slice_split (λ b. b == 10) rest) (split_has (λ b. b == 10) rest)
        ∙ ap (λ (l : List ℕ). l ∷ lines rest) (stripped line)
    by false t =
        let shape : with_line_end line ++ rest ≡ line ++ 10 ∷ rest = rw t (append_assoc line (10 ∷ []) rest) in
        let kept : strip_carriage_return line ≡ line = rw t refl in
        ap lines shape
        ∙ ap lines_of_parts (split_at 10 line rest refl h)
        ∙ lines_of_first line (slice_split (λ b. b == 10) rest) (split_has (λ b. b == 10) rest)
        ∙ ap (λ (l : List ℕ). l ∷ lines rest) kept

pub all_read : (ls : List (List ℕ)) → AllByRecursion (Lacks 10) ls → lines (text_of ls) ≡ ls
all_read [] h = refl
all_read (line ∷ ls) h = first_line line (text_of ls) h.0 ∙ ap (λ (rest : List (List ℕ)). line ∷ rest) (all_read ls h.1)
