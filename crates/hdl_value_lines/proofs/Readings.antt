-- What a field was written as is read again.
use Rattle.std.proofs.Common.{◌≡◌, ℕ, zero, suc, ◌+◌, ◌-◌, ◌*◌, ◌/◌, ◌%◌, ◌^◌, ◌<◌, ◌≤◌, ◌⊎◌, Bool, true, false, eqb, ltb, List, [], ◌∷◌, ◌++◌, length, get_or, take, drop, Option, Some, None, Result, Ok, Err, refl, sym, ap, subst, ◌∙◌, append_assoc, arith, inl, inr}
use Rattle.std.specs.Prelude.{decimal, not, ◌&&◌}
use Rattle.std.specs.List.{AllByRecursion, list_all}
use Rattle.std.specs.Str.{bytes_eq, IsUtf8}
use Rattle.std.specs.Str.Parse.{AllDigits, digits_value, ParsesUnsigned}
use Rattle.std.proofs.lemmas.Bool.{eq-eqb, ne_eqb, ltb-true, lt-ltb, and_parts, cases_lt}
use Rattle.std.proofs.lemmas.List.{append-nil, take_all, length-drop}
use Rattle.std.proofs.lemmas.Slice.Eq.{bytes_eq-Decides}
use Rattle.std.proofs.lemmas.Str.Parse.{digit_from_value}
use Rattle.std.proofs.lemmas.Option.{cond_some}
use Rattle.std.proofs.lemmas.Str.{IsUtf8-from_ascii}
use Rattle.std.proofs.lemmas.Fmt.{decimal_is_IsNumeral, parse-decimal, IsAscii-decimal}
use Rattle.hdl_value.specs.Permission.{bits}
use Rattle.hdl_value_lines.specs.Fields.{space, colon, is_graphic, is_word, cut_at, number_in, bit_in, bits_in, mask_in, permission_digits, permissions_in, number_at, word_at, permissions_at}

-- either way of a test
abbrev pub cases : (b : Bool) → Type 0
cases b = (b ≡ true) ⊎ (b ≡ false)

pub either : (b : Bool) → cases b
either true = inl refl
either false = inr refl

-- ---- up to an octet

-- the octet isn't among them
abbrev pub Lacks : ℕ → List ℕ → Type 0
Lacks stop octets = AllByRecursion (λ octet. eqb octet stop ≡ false) octets

pub cut_again : (stop : ℕ) (word rest : List ℕ) → Lacks stop word → cut_at stop (word ++ stop ∷ rest) ≡ Some (word, rest)
cut_again stop [] rest h = rw (eq-eqb stop stop refl) refl
cut_again stop (octet ∷ word) rest h = rw (h.0, cut_again stop word rest h.1) refl

pub cut_found : (stop : ℕ) (octets : List ℕ) (i : ℕ) → i < length octets → ((k : ℕ) → k < i → get_or octets k 0 ≡ stop → ⊥) → get_or octets i 0 ≡ stop → cut_at stop octets ≡ Some (take i octets, drop (suc i) octets)
cut_found stop [] i lt none e = absurd (omega (arith, lt))
cut_found stop (octet ∷ octets) zero lt none e = rw (eq-eqb octet stop e) refl
cut_found stop (octet ∷ octets) (suc i) lt none e =
    rw (ne_eqb octet stop (none 0 (omega arith)), cut_found stop octets i (omega (arith, lt)) (λ k l. none (suc k) (omega (arith, l))) e) refl

-- as slices are cut
pub cut_here : (stop : ℕ) (octets : List ℕ) (i : ℕ) → i < length octets → ((k : ℕ) → k < i → get_or octets k 0 ≡ stop → ⊥) → get_or octets i 0 ≡ stop → cut_at stop octets ≡ Some (take i octets, take (length octets - (i + 1)) (drop (i + 1) octets))
cut_here stop octets i lt none e =
    let all : take (length octets - (i + 1)) (drop (i + 1) octets) ≡ drop (i + 1) octets = take_all _ _ (omega (arith, length-drop (i + 1) octets)) in
    let next : i + 1 ≡ suc i = omega arith in
    rw all (rw next (cut_found stop octets i lt none e))

pub cut_none : (stop : ℕ) (octets : List ℕ) → ((k : ℕ) → k < length octets → get_or octets k 0 ≡ stop → ⊥) → cut_at stop octets ≡ None
cut_none stop [] none = refl
cut_none stop (octet ∷ octets) none =
    rw (ne_eqb octet stop (none 0 (omega arith)), cut_none stop octets (λ k l. none (suc k) (omega (arith, l)))) refl

-- ---- words

pub word_lacks : (word : List ℕ) → list_all is_graphic word ≡ true → Lacks space word
word_lacks [] h = tt
word_lacks (octet ∷ word) h =
    let both = and_parts (is_graphic octet) (list_all is_graphic word) h in
    let graphic = and_parts (ltb space octet) (ltb octet 127) both.0 in
    let above = ltb-true space octet graphic.0 in
    (ne_eqb octet space (λ e. omega (arith, above, e)), word_lacks word both.1)

pub is_word_lacks : (word : List ℕ) → is_word word ≡ true → Lacks space word
is_word_lacks word h = word_lacks word (and_parts (not (eqb (length word) 0)) (list_all is_graphic word) h).1

pub word_again : (word rest : List ℕ) → is_word word ≡ true → word_at (word ++ space ∷ rest) ≡ Some (word, rest)
unfolding word_at
word_again word rest h = rw (cut_again space word rest (is_word_lacks word h)) (rw h refl)

-- ---- numbers

digits_lack : (stop : ℕ) (ds : List ℕ) → (stop < 48) → AllDigits 10 ds → Lacks stop ds
digits_lack stop [] below h = tt
digits_lack stop (d ∷ ds) below h =
    let range = digit_from_value d h.0 in
    (ne_eqb d stop (λ e. omega (arith, range.0, e)), digits_lack stop ds below h.1)

digits_lack_colon : (ds : List ℕ) → AllDigits 10 ds → Lacks colon ds
digits_lack_colon [] h = tt
digits_lack_colon (d ∷ ds) h =
    let range = digit_from_value d h.0 in
    (ne_eqb d colon (λ e. omega (arith, range.1, e)), digits_lack_colon ds h.1)

pub decimal_digits : (n : ℕ) → n < 2 ^ 32 → AllDigits 10 (decimal n)
decimal_digits n lt = (decimal_is_IsNumeral n (omega arith)).0.1

pub decimal_lacks_space : (n : ℕ) → n < 2 ^ 32 → Lacks space (decimal n)
decimal_lacks_space n lt = digits_lack space (decimal n) (omega arith) (decimal_digits n lt)

pub decimal_lacks_colon : (n : ℕ) → n < 2 ^ 32 → Lacks colon (decimal n)
decimal_lacks_colon n lt = digits_lack_colon (decimal n) (decimal_digits n lt)

pub number_again : (n : ℕ) → n < 2 ^ 32 → number_in (decimal n) ≡ Some n
unfolding number_in
number_again n lt =
    let value : digits_value 10 (decimal n) ≡ n = (decimal_is_IsNumeral n (omega arith)).1 in
    let same : bytes_eq (decimal n) (decimal n) ≡ true = (bytes_eq-Decides (decimal n) (decimal n)).1 refl in
    rw value (rw (same, lt-ltb n (2 ^ 32) lt) refl)

-- a number that is read is written so
pub number_is : (word : List ℕ) (n : ℕ) → number_in word ≡ Some n → (word ≡ decimal n) × (n < 2 ^ 32)
unfolding number_in
number_is word n e =
    let g = cond_some (bytes_eq (decimal (digits_value 10 word)) word && ltb (digits_value 10 word) (2 ^ 32)) (digits_value 10 word) n e in
    let both = and_parts (bytes_eq (decimal (digits_value 10 word)) word) (ltb (digits_value 10 word) (2 ^ 32)) g.0 in
    let same : decimal (digits_value 10 word) ≡ word = (bytes_eq-Decides _ word).0 both.0 in
    (sym same ∙ ap decimal g.1, subst (λ (m : ℕ). m < 2 ^ 32) g.1 (ltb-true _ _ both.1))

none_if : {A : Type 0} (o : Option A) → ((x : A) → o ≡ Some x → ⊥) → o ≡ None
none_if None h = refl
none_if (Some x) h = absurd (h x refl)

-- where no number is written so
pub no_number : (word : List ℕ) → ((n : ℕ) → n < 2 ^ 32 → word ≡ decimal n → ⊥) → number_in word ≡ None
no_number word lacks = none_if (number_in word) (λ n e. let is = number_is word n e in lacks n is.1 is.0)

pub no_utf8_number : (word : List ℕ) → (IsUtf8 word → ⊥) → number_in word ≡ None
no_utf8_number word none = no_number word (λ n lt e. none (subst IsUtf8 (sym e) (IsUtf8-from_ascii (decimal n) (IsAscii-decimal n (omega arith)))))

parsed_is : {E : Type 0} (word : List ℕ) (r : Result ℕ E) (n : ℕ) → ParsesUnsigned 32 10 word r → n < 2 ^ 32 → word ≡ decimal n → r ≡ Ok n
parsed_is word r n parses lt e = parse-decimal 32 n word r lt (omega arith) e parses

pub not_parsed : {E : Type 0} (word : List ℕ) (r : Result ℕ E) (e : E) → r ≡ Err e → ParsesUnsigned 32 10 word r → number_in word ≡ None
not_parsed word r e is parses = no_number word (λ n lt w. let ok = sym is ∙ parsed_is word r n parses lt w in absurd cc)

pub not_canonical : {E : Type 0} (word : List ℕ) (r : Result ℕ E) (number : ℕ) → r ≡ Ok number → ParsesUnsigned 32 10 word r → (decimal number ≡ word → ⊥) → number_in word ≡ None
not_canonical word r number is parses other = no_number word (λ n lt w. let ok : Ok number ≡ Ok n = sym is ∙ parsed_is word r n parses lt w in let same : number ≡ n = cc in other (ap decimal same ∙ sym w))

pub canonical_number : (word : List ℕ) (number : ℕ) → number < 2 ^ 32 → decimal number ≡ word → number_in word ≡ Some number
canonical_number word number lt e = subst (λ (w : List ℕ). number_in w ≡ Some number) e (number_again number lt)

pub number_field_again : (n : ℕ) (rest : List ℕ) → n < 2 ^ 32 → number_at (decimal n ++ space ∷ rest) ≡ Some (n, rest)
unfolding number_at
number_field_again n rest lt = rw (cut_again space (decimal n) rest (decimal_lacks_space n lt)) (rw (number_again n lt) refl)

-- ---- binary digits

bits_lack : (stop k n : ℕ) → (eqb 48 stop ≡ false) → (eqb 49 stop ≡ false) → Lacks stop (bits k n)
bits_lack stop zero n zero_no one_no = tt
bits_lack stop (suc k) n zero_no one_no = (
  elim (cases_lt (n % 2) 1) [
    | inl lt ↦ let e : 48 + n % 2 ≡ 48 = omega arith in rw e zero_no
    | inr le ↦ let e : 48 + n % 2 ≡ 49 = omega arith in rw e one_no
  ],
  bits_lack stop k (n / 2) zero_no one_no,
)

pub bits_lack_space : (k n : ℕ) → Lacks space (bits k n)
bits_lack_space k n = bits_lack space k n refl refl

pub bits_lack_colon : (k n : ℕ) → Lacks colon (bits k n)
bits_lack_colon k n = bits_lack colon k n refl refl

bit_again : (n : ℕ) → bit_in (48 + n % 2) ≡ Some (n % 2)
bit_again n =
    elim (cases_lt (n % 2) 1) [
      | inl lt ↦ let e : n % 2 ≡ 0 = omega arith in rw e refl
      | inr le ↦ let e : n % 2 ≡ 1 = omega arith in rw e refl
    ]

pub bits_again : (k n : ℕ) → n < 2 ^ k → bits_in (bits k n) ≡ Some n
bits_again zero n lt = ap Some (omega (arith, lt))
bits_again (suc k) n lt =
    let half : n / 2 < 2 ^ k = omega (arith, lt) in
    let parts : n % 2 + 2 * (n / 2) ≡ n = omega arith in
    rw (bit_again n, bits_again k (n / 2) half) (ap Some parts)

pub length-bits : (k n : ℕ) → length (bits k n) ≡ k
length-bits zero n = refl
length-bits (suc k) n = ap suc (length-bits k (n / 2))

pub mask_again : (n : ℕ) → n < 2 ^ 12 → mask_in (bits 12 n) ≡ Some n
mask_again n lt = bits_again 12 n lt

pub permissions_again : (n : ℕ) → n < 2 ^ 4 → permissions_in (permission_digits n) ≡ Some n
permissions_again n lt = bits_again 4 n lt

reversed_lacks : (n : ℕ) → Lacks space (permission_digits n)
reversed_lacks n =
    let h = bits_lack_space 4 n in
    (h.1.1.1.0, (h.1.1.0, (h.1.0, (h.0, tt))))

pub permissions_field_again : (n : ℕ) (rest : List ℕ) → n < 2 ^ 4 → permissions_at (permission_digits n ++ space ∷ rest) ≡ Some (n, rest)
unfolding permissions_at
permissions_field_again n rest lt = rw (cut_again space (permission_digits n) rest (reversed_lacks n)) (rw (permissions_again n lt) refl)
