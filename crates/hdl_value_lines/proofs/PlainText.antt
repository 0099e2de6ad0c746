-- Text without a control character: what is printed of octets.
use Rattle.std.proofs.Common.{◌≡◌, ℕ, zero, suc, ◌/◌, ◌%◌, ◌<◌, ◌≤◌, Bool, true, false, ltb, List, [], ◌∷◌, ◌++◌, length, get_or, refl, sym, ap, ◌∙◌, arith, inl, inr, tests}
use Rattle.std.specs.Prelude.{not, ◌&&◌, nat_lt, codes}
use Rattle.std.specs.Char.{IsScalar, is_control, encode_utf8}
use Rattle.std.specs.Fmt.{digits, digit_glyph}
use Rattle.std.specs.List.{AllByRecursion, flat_map, list_all}
use Rattle.std.specs.Str.{chars, is_utf8, IsUtf8, IsAscii, all_scalars, encode_utf8_all}
use Rattle.std.proofs.lemmas.Bool.{ltb-true, lt-ltb, and_parts, cases_lt}
use Rattle.std.proofs.lemmas.Fmt.{hex_one_digit, hex_two_digits}
use Rattle.std.proofs.lemmas.List.{append-nil, nil_from_length}
use Rattle.std.proofs.lemmas.List.Folds.{list_all-append}
use Rattle.std.proofs.lemmas.Str.{IsUtf8-append, IsUtf8-encode, IsUtf8-from_ascii, IsUtf8-from_is_utf8, is_utf8-from_IsUtf8, chars-IsAscii, chars-append, chars-encodes, chars-nil, chars_past_char, encodes-chars, scalars-chars}
use Rattle.hex.specs.Hex.{encode_with, encode_lower, lower_digits}
use Rattle.hdl_limits.specs.Octets.{AreOctets}
use Rattle.hdl_value_lines.specs.Fields.{is_printed, is_line}
use Rattle.hdl_value_lines.proofs.Readings.{either}
use Rattle.hdl_value_lines.specs.Printed.{escape, printed_char, printed_text, printed_octets}

-- ---- graphic ASCII and spaces, from 32 to 126

abbrev pub Graphic : List ℕ → Type 0
Graphic octets = AllByRecursion (λ octet. (32 ≤ octet) × (octet < 127)) octets

abbrev is_seen : ℕ → Bool
is_seen octet = nat_lt 31 octet && nat_lt octet 127

pub graphic_from : (octets : List ℕ) → list_all is_seen octets ≡ true → Graphic octets
graphic_from [] h = tt
graphic_from (octet ∷ octets) h =
    let both = and_parts (is_seen octet) (list_all is_seen octets) h in
    let range = and_parts (ltb 31 octet) (ltb octet 127) both.0 in
    ((omega (arith, ltb-true 31 octet range.0), ltb-true octet 127 range.1), graphic_from octets both.1)

pub graphic_joined : (a b : List ℕ) → Graphic a → Graphic b → Graphic (a ++ b)
graphic_joined [] b h k = k
graphic_joined (octet ∷ a) b h k = (h.0, graphic_joined a b h.1 k)

graphic_at : (octets : List ℕ) (i : ℕ) → Graphic octets → i < length octets → (32 ≤ get_or octets i 0) × (get_or octets i 0 < 127)
graphic_at [] i h lt = absurd (omega (arith, lt))
graphic_at (octet ∷ octets) zero h lt = h.0
graphic_at (octet ∷ octets) (suc i) h lt = graphic_at octets i h.1 (omega (arith, lt))

graphic_ascii : (octets : List ℕ) → Graphic octets → IsAscii octets
graphic_ascii [] h i = omega arith
graphic_ascii (octet ∷ octets) h zero = omega (arith, h.0.1)
graphic_ascii (octet ∷ octets) h (suc i) = graphic_ascii octets h.1 i

-- ---- no control character

graphic_is_printed : (octet : ℕ) → 32 ≤ octet → octet < 127 → is_printed octet ≡ true
graphic_is_printed octet low high = grind (arith, tests)

graphic_printed : (octets : List ℕ) → Graphic octets → list_all is_printed octets ≡ true
graphic_printed [] h = refl
graphic_printed (octet ∷ octets) h = rw (graphic_is_printed octet h.0.0 h.0.1) (graphic_printed octets h.1)

record IsPlain (text : List ℕ) : Type 0 where
  utf8 : IsUtf8 text
  each : list_all is_printed (chars text) ≡ true

line_plain : (text : List ℕ) → is_line text ≡ true → IsPlain text
line_plain text h =
    let both = and_parts (is_utf8 text) (list_all is_printed (chars text)) h in
    record { utf8 = IsUtf8-from_is_utf8 text both.0; each = both.1 }

line_from : (text : List ℕ) → IsUtf8 text → list_all is_printed (chars text) ≡ true → is_line text ≡ true
line_from text utf8 each = rw (is_utf8-from_IsUtf8 text utf8) each

pub graphic_line : (octets : List ℕ) → Graphic octets → is_line octets ≡ true
graphic_line octets h =
    let ascii = graphic_ascii octets h in
    line_from octets (IsUtf8-from_ascii octets ascii) (rw (chars-IsAscii octets ascii) (graphic_printed octets h))

pub line_joined : (a b : List ℕ) → is_line a ≡ true → is_line b ≡ true → is_line (a ++ b) ≡ true
line_joined a b h k =
    let p = line_plain a h in
    let q = line_plain b k in
    line_from (a ++ b) (IsUtf8-append a b p.utf8 q.utf8) (rw (chars-append a b p.utf8) (list_all-append is_printed (chars a) (chars b) ∙ rw (p.each, q.each) refl))

-- character after character
pub plain_none : (text : List ℕ) → length text ≡ 0 → list_all is_printed (chars text) ≡ true
plain_none text none = rw (ap chars (nil_from_length text none) ∙ chars-nil) refl

pub plain_step : (text rest : List ℕ) (c : ℕ) → IsUtf8 text → text ≡ encode_utf8 c ++ rest → is_control c ≡ false → list_all is_printed (chars text) ≡ list_all is_printed (chars rest)
plain_step text rest c utf8 parts plain = rw (chars_past_char text rest c utf8 parts) (rw plain refl)

pub plain_stop : (text rest : List ℕ) (c : ℕ) → IsUtf8 text → text ≡ encode_utf8 c ++ rest → is_control c ≡ true → list_all is_printed (chars text) ≡ false
plain_stop text rest c utf8 parts control = rw (chars_past_char text rest c utf8 parts) (rw control refl)

-- ---- what is printed

char_line : (c : ℕ) → IsScalar c → is_control c ≡ false → is_line (encode_utf8 c) ≡ true
char_line c scalar plain =
    let alone : encode_utf8_all (c ∷ []) ≡ encode_utf8 c = append-nil (encode_utf8 c) in
    let own : chars (encode_utf8 c) ≡ c ∷ [] = ap chars (sym alone) ∙ chars-encodes (c ∷ []) (rw scalar refl) in
    line_from (encode_utf8 c) (IsUtf8-encode c scalar) (rw own (rw plain refl))

glyph_graphic : (n : ℕ) → n < 16 → (32 ≤ digit_glyph false n) × (digit_glyph false n < 127)
glyph_graphic n lt =
    elim (cases_lt n 10) [
      | inl small ↦ rw (lt-ltb n 10 small) (omega arith, omega (arith, small))
      | inr large ↦ (grind arith, grind arith)
    ]

digits_graphic : (n : ℕ) → n < 256 → Graphic (digits 16 false n)
digits_graphic n lt =
    elim (cases_lt n 16) [
      | inl small ↦ rw (hex_one_digit false n small) (glyph_graphic n small, tt)
      | inr large ↦
          rw (hex_two_digits false n large lt) (glyph_graphic (n / 16) (omega (arith, lt)), (glyph_graphic (n % 16) (omega arith), tt))
    ]

control_small : (c : ℕ) → is_control c ≡ true → c < 256
control_small c h = grind (arith, tests)

escape_line : (c : ℕ) → is_control c ≡ true → is_line (escape c) ≡ true
escape_line c h =
    let front : Graphic (92 ∷ codes "u{") = graphic_from (92 ∷ codes "u{") refl in
    let behind : Graphic (codes "}") = graphic_from (codes "}") refl in
    graphic_line (escape c) (graphic_joined (92 ∷ codes "u{") (digits 16 false c ++ codes "}") front (graphic_joined (digits 16 false c) (codes "}") (digits_graphic c (control_small c h)) behind))

printed_char_line : (c : ℕ) → IsScalar c → is_line (printed_char c) ≡ true
printed_char_line c scalar = elim (either (is_control c)) [
  | inl control ↦ rw control (escape_line c control)
  | inr plain ↦ rw plain (char_line c scalar plain)
]

chars_line : (cs : List ℕ) → all_scalars cs ≡ true → is_line (flat_map printed_char cs) ≡ true
chars_line [] h = graphic_line [] tt
chars_line (c ∷ cs) h =
    let both = and_parts _ (all_scalars cs) h in
    line_joined (printed_char c) (flat_map printed_char cs) (printed_char_line c both.0) (chars_line cs both.1)

pub encoded_graphic : (octets : List ℕ) → AreOctets octets → Graphic (encode_lower octets)
unfolding encode_with
encoded_graphic [] h = tt
encoded_graphic (octet ∷ octets) h =
    let digits : Graphic lower_digits = graphic_from lower_digits refl in
    (graphic_at lower_digits (octet / 16) digits (omega (arith, h 0)), (graphic_at lower_digits (octet % 16) digits (omega arith), encoded_graphic octets (λ i. h (suc i))))

pub printed_line : (octets : List ℕ) → AreOctets octets → is_line (printed_octets octets) ≡ true
unfolding printed_text
printed_line octets h = elim (either (is_utf8 octets)) [
  | inl text ↦ rw text (chars_line (chars octets) (scalars-chars octets (IsUtf8-from_is_utf8 octets text)))
  | inr other ↦ rw other (graphic_line (encode_lower octets) (encoded_graphic octets h))
]

-- character after character
pub printed_none : (text : List ℕ) → length text ≡ 0 → printed_text text ≡ []
unfolding printed_text
printed_none text none = rw (ap chars (nil_from_length text none) ∙ chars-nil) refl

pub printed_step : (text rest : List ℕ) (c : ℕ) → IsUtf8 text → text ≡ encode_utf8 c ++ rest → printed_text text ≡ printed_char c ++ printed_text rest
unfolding printed_text
printed_step text rest c utf8 parts = rw (chars_past_char text rest c utf8 parts) refl

not_true : (b : Bool) → not b ≡ true → b ≡ false
not_true true h = absurd cc
not_true false h = refl

chars_same : (cs : List ℕ) → list_all is_printed cs ≡ true → flat_map printed_char cs ≡ encode_utf8_all cs
chars_same [] h = refl
chars_same (c ∷ cs) h =
    let both = and_parts (is_printed c) (list_all is_printed cs) h in
    rw (not_true (is_control c) both.0, chars_same cs both.1) refl

-- text without a control character is printed as it is
pub printed_same : (text : List ℕ) → is_line text ≡ true → printed_octets text ≡ text
unfolding printed_text
printed_same text h =
    let p = line_plain text h in
    rw (is_utf8-from_IsUtf8 text p.utf8) (chars_same (chars text) p.each ∙ encodes-chars text p.utf8)
