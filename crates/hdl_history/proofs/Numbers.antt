-- A number of 64 bits that was written is read again, and no other word is read.
use Rattle.std.proofs.Common.{◌≡◌, ℕ, ◌^◌, ◌<◌, true, ltb, List, Option, Some, None, Result, Ok, Err, refl, sym, ap, subst, ◌∙◌, arith}
use Rattle.std.specs.Prelude.{decimal, ◌&&◌}
use Rattle.std.specs.Str.{bytes_eq, IsUtf8}
use Rattle.std.specs.Str.Parse.{digits_value, ParsesUnsigned}
use Rattle.std.proofs.lemmas.Bool.{ltb-true, lt-ltb, and_parts}
use Rattle.std.proofs.lemmas.Slice.Eq.{bytes_eq-Decides}
use Rattle.std.proofs.lemmas.Option.{cond_some}
use Rattle.std.proofs.lemmas.Str.{IsUtf8-from_ascii}
use Rattle.std.proofs.lemmas.Fmt.{decimal_is_IsNumeral, parse-decimal, IsAscii-decimal}
use Rattle.hdl_history.specs.Fields.{long_in}

pub long_again : (n : ℕ) → n < 2 ^ 64 → long_in (decimal n) ≡ Some n
unfolding long_in
long_again n lt =
    let value : digits_value 10 (decimal n) ≡ n = (decimal_is_IsNumeral n (omega arith)).1 in
    let same : bytes_eq (decimal n) (decimal n) ≡ true = (bytes_eq-Decides (decimal n) (decimal n)).1 refl in
    rw value (rw (same, lt-ltb n (2 ^ 64) lt) refl)

long_is : (word : List ℕ) (n : ℕ) → long_in word ≡ Some n → (word ≡ decimal n) × (n < 2 ^ 64)
unfolding long_in
long_is word n e =
    let g = cond_some (bytes_eq (decimal (digits_value 10 word)) word && ltb (digits_value 10 word) (2 ^ 64)) (digits_value 10 word) n e in
    let both = and_parts (bytes_eq (decimal (digits_value 10 word)) word) (ltb (digits_value 10 word) (2 ^ 64)) g.0 in
    let same : decimal (digits_value 10 word) ≡ word = (bytes_eq-Decides _ word).0 both.0 in
    (sym same ∙ ap decimal g.1, subst (λ (m : ℕ). m < 2 ^ 64) g.1 (ltb-true _ _ both.1))

none_if : {A : Type 0} (o : Option A) → ((x : A) → o ≡ Some x → ⊥) → o ≡ None
none_if None h = refl
none_if (Some x) h = absurd (h x refl)

no_long : (word : List ℕ) → ((n : ℕ) → n < 2 ^ 64 → word ≡ decimal n → ⊥) → long_in word ≡ None
no_long word lacks = none_if (long_in word) (λ n e. let is = long_is word n e in lacks n is.1 is.0)

pub no_utf8_long : (word : List ℕ) → (IsUtf8 word → ⊥) → long_in word ≡ None
no_utf8_long word none = no_long word (λ n lt e. none (subst IsUtf8 (sym e) (IsUtf8-from_ascii (decimal n) (IsAscii-decimal n (omega arith)))))

parsed_is : {E : Type 0} (word : List ℕ) (r : Result ℕ E) (n : ℕ) → ParsesUnsigned 64 10 word r → n < 2 ^ 64 → word ≡ decimal n → r ≡ Ok n
parsed_is word r n parses lt e = parse-decimal 64 n word r lt (omega arith) e parses

pub not_parsed : {E : Type 0} (word : List ℕ) (r : Result ℕ E) (e : E) → r ≡ Err e → ParsesUnsigned 64 10 word r → long_in word ≡ None
not_parsed word r e is parses = no_long word (λ n lt w. let ok = sym is ∙ parsed_is word r n parses lt w in absurd cc)

pub not_canonical : {E : Type 0} (word : List ℕ) (r : Result ℕ E) (number : ℕ) → r ≡ Ok number → ParsesUnsigned 64 10 word r → (decimal number ≡ word → ⊥) → long_in word ≡ None
not_canonical word r number is parses other = no_long word (λ n lt w. let ok : Ok number ≡ Ok n = sym is ∙ parsed_is word r n parses lt w in let same : number ≡ n = cc in other (ap decimal same ∙ sym w))

pub canonical_long : (word : List ℕ) (number : ℕ) → number < 2 ^ 64 → decimal number ≡ word → long_in word ≡ Some number
canonical_long word number lt e = subst (λ (w : List ℕ). long_in w ≡ Some number) e (long_again number lt)
