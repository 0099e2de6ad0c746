-- The line of a row says it.
use Rattle.std.proofs.Common.{◌≡◌, ℕ, ◌==◌, Bool, true, false, List, [], ◌∷◌, ◌++◌, refl, sym, ap, ◌∙◌, true≢false}
use Rattle.std.specs.Prelude.{codes, not, ◌&&◌}
use Rattle.std.specs.List.{AllPass}
use Rattle.std.proofs.lemmas.Bool.{and_parts, eqb-true}
use Rattle.std.proofs.lemmas.List.{append-nil}
use Rattle.std.proofs.lemmas.List.Elements.{All-head, All-tail}
use Rattle.hex.specs.Hex.{encode_lower, is_hex_digit}
use Rattle.hex.proofs.HexLemmas.{decode_of-encode_lower, decode_of-ok}
use Rattle.hdl_name.specs.Name.{IsHandle}
use Rattle.hdl_value.specs.declared.value.Value.{Value}
use Rattle.hdl_value.specs.Spelling.{spelling}
use Rattle.hdl_value.specs.Fault.{IsSound}
use Rattle.hdl_tenants.specs.Register.{Row}
use Rattle.hdl_tenants.specs.Lines.{fields_of}
use Rattle.hdl_tenants.specs.Text.{opened, IsLine}
use Rattle.hdl_export.specs.Lines.{Lacks, is_expressible, value_line, IsWritable}
use Rattle.hdl_export.specs.Laws.{IsWritableRow}
use Rattle.hdl_export.proofs.LinesRead.{split_at, split_last, lacks_joined}

-- ---- which octets stand in a handle that can be said, and in digits

not_true : (b : Bool) → not b ≡ true → b ≡ false
not_true true h = absurd (true≢false (sym h))
not_true false h = refl

abbrev is_said : ℕ → Bool
is_said octet = not (octet == 32) && not (octet == 10)

handle_lacks_space : (handle : List ℕ) → is_expressible handle ≡ true → Lacks 32 handle
handle_lacks_space [] h = tt
handle_lacks_space (octet ∷ handle) h =
    let both = and_parts (is_said octet) (is_expressible handle) h in
    let each = and_parts (not (octet == 32)) (not (octet == 10)) both.0 in
    (not_true (octet == 32) each.0, handle_lacks_space handle both.1)

handle_lacks_feed : (handle : List ℕ) → is_expressible handle ≡ true → Lacks 10 handle
handle_lacks_feed [] h = tt
handle_lacks_feed (octet ∷ handle) h =
    let both = and_parts (is_said octet) (is_expressible handle) h in
    let each = and_parts (not (octet == 32)) (not (octet == 10)) both.0 in
    (not_true (octet == 10) each.1, handle_lacks_feed handle both.1)

other_octet : (stop octet : ℕ) → is_hex_digit stop ≡ false → is_hex_digit octet ≡ true → (b : Bool) → (octet == stop) ≡ b → b ≡ false
other_octet stop octet plain digit true t = absurd (true≢false (sym digit ∙ ap is_hex_digit (eqb-true octet stop t) ∙ plain))
other_octet stop octet plain digit false t = refl

digits_lack : (stop : ℕ) (digits : List ℕ) → is_hex_digit stop ≡ false → AllPass is_hex_digit digits → Lacks stop digits
digits_lack stop [] plain h = tt
digits_lack stop (octet ∷ digits) plain h = (
  other_octet stop octet plain (All-head (λ d. is_hex_digit d ≡ true) octet digits h) (octet == stop) refl,
  digits_lack stop digits plain (All-tail (λ d. is_hex_digit d ≡ true) octet digits h),
)

-- ---- the line

abbrev pub digits_of : Value → List ℕ
digits_of v = encode_lower (spelling v)

all_digits : (v : Value) → IsWritable v → AllPass is_hex_digit (digits_of v)
all_digits v h = (decode_of-ok (digits_of v) (spelling v) (decode_of-encode_lower (spelling v) h.octets)).1

pub line_lacks_feed : (row : Row) → IsWritableRow row → Lacks 10 (value_line row)
line_lacks_feed row h =
    lacks_joined 10 (codes "value ") (row.0 ++ (32 ∷ digits_of row.1)) (refl, (refl, (refl, (refl, (refl, (refl, tt))))))
    (lacks_joined 10 row.0 (32 ∷ digits_of row.1) (handle_lacks_feed row.0 h.handle) (refl, digits_lack 10 (digits_of row.1) refl (all_digits row.1 h.value)))

pub fields_are : (row : Row) → IsWritableRow row → fields_of (value_line row) ≡ codes "value" ∷ row.0 ∷ digits_of row.1 ∷ []
fields_are row h =
    split_at 32 (codes "value") (row.0 ++ (32 ∷ digits_of row.1)) refl (refl, (refl, (refl, (refl, (refl, tt)))))
    ∙ ap (λ (more : List (List ℕ)). codes "value" ∷ more) (split_at 32 row.0 (digits_of row.1) refl (handle_lacks_space row.0 h.handle))
    ∙ ap (λ (more : List (List ℕ)). codes "value" ∷ row.0 ∷ more) (split_last 32 (digits_of row.1) (digits_lack 32 (digits_of row.1) refl (all_digits row.1 h.value)))

pub line_says : (row : Row) → IsWritableRow row → IsHandle row.0 → IsSound row.1 → IsLine (value_line row) (opened row.0 row.1)
line_says row h named sound = record {
  digits = digits_of row.1;
  split = fields_are row h;
  named = named;
  value = record {
    octets = spelling row.1;
    decoded = decode_of-encode_lower (spelling row.1) h.value.octets;
    spelt = record { fits = h.value.fits; spelt = sym (append-nil (spelling row.1)) };
    sound = sound;
  };
}
