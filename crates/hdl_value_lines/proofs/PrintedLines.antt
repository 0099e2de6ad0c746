-- The line of a value, and that of a hidden key, are printed as they are.
use Rattle.std.proofs.Common.{◌≡◌, ℕ, zero, suc, ◌/◌, ◌^◌, ◌<◌, true, false, eqb, ltb, List, [], ◌∷◌, ◌++◌, length, Option, Some, None, refl, sym, ap, subst, ◌∙◌, append_assoc, arith, inl, inr, Err}
use Rattle.std.specs.Prelude.{decimal, codes, not, ◌&&◌, unwrap_or, IfSome}
use Rattle.std.specs.List.{flat_map, list_all}
use Rattle.std.specs.Str.Parse.{AllDigits}
use Rattle.std.proofs.lemmas.Bool.{ltb-true, and_parts, ne_eqb}
use Rattle.std.proofs.lemmas.Str.Parse.{digit_from_value}
use Rattle.hex.specs.Hex.{encode_lower}
use Rattle.hdl_value.specs.declared.references.RawRef.{RawRef}
use Rattle.hdl_value.specs.declared.value.Value.{Value}
use Rattle.hdl_value.specs.Spelling.{spelling, Fits}
use Rattle.hdl_value.specs.Reading.{◌>>=◌}
use Rattle.hdl_value.specs.Data.{IsAdminData, IsListData, secret_key_kind}
use Rattle.hdl_value.specs.Refs.{is_admin, is_list, admin_in, list_in, admin_read, list_read}
use Rattle.hdl_value.proofs.DataRead.{admin_in_is, list_in_is}
use Rattle.hdl_value.specs.Permission.{bits}
use Rattle.hdl_value_lines.specs.Fields.{space, colon, is_graphic, is_word, is_text, is_line, has_end, number_in, permission_digits, number_at}
use Rattle.hdl_value_lines.specs.declared.fault.LineFault.TheVariants as fault
use Rattle.hdl_value_lines.specs.Data.{admin_words, reference_text, list_words, list_text, plain_text, data_text}
use Rattle.hdl_value_lines.specs.Lines.{value_in, value_in_fields, has_fields, field, fields_text, line_of, ttl_fault}
use Rattle.hdl_value_lines.specs.Hiding.{hidden_data, hidden_text}
use Rattle.hdl_value_lines.specs.Printed.{printed_octets}
use Rattle.hdl_value_lines.specs.Laws.{IsHiddenText}
use Rattle.hdl_value_lines.proofs.Readings.{either, cut_again, word_again, decimal_digits, decimal_lacks_space, number_again, no_number}
use Rattle.hdl_value_lines.proofs.RoundTrip.{spelling_octets, Worded, worded_from, if_some, Plain, plain_from, number_no_octets, ttl_number}
use Rattle.hdl_value_lines.proofs.PlainText.{Graphic, graphic_from, graphic_joined, encoded_graphic, graphic_line, line_joined, printed_same}

-- ---- fields

digits_graphic : (ds : List ℕ) → AllDigits 10 ds → Graphic ds
digits_graphic [] h = tt
digits_graphic (d ∷ ds) h =
    let range = digit_from_value d h.0 in
    ((omega (arith, range.0), omega (arith, range.1)), digits_graphic ds h.1)

decimal_graphic : (n : ℕ) → n < 2 ^ 32 → Graphic (decimal n)
decimal_graphic n lt = digits_graphic (decimal n) (decimal_digits n lt)

each_graphic : (word : List ℕ) → list_all is_graphic word ≡ true → Graphic word
each_graphic [] h = tt
each_graphic (octet ∷ word) h =
    let both = and_parts (is_graphic octet) (list_all is_graphic word) h in
    let range = and_parts (ltb space octet) (ltb octet 127) both.0 in
    ((omega (arith, ltb-true space octet range.0), ltb-true octet 127 range.1), each_graphic word both.1)

word_graphic : (word : List ℕ) → is_word word ≡ true → Graphic word
word_graphic word h = each_graphic word (and_parts (not (eqb (length word) 0)) (list_all is_graphic word) h).1

bits_graphic : (k n : ℕ) → Graphic (bits k n)
bits_graphic zero n = tt
bits_graphic (suc k) n = ((omega arith, omega arith), bits_graphic k (n / 2))

permissions_graphic : (n : ℕ) → Graphic (permission_digits n)
permissions_graphic n =
    let h = bits_graphic 4 n in
    (h.1.1.1.0, (h.1.1.0, (h.1.0, (h.0, tt))))

field_graphic : (octets : List ℕ) → Graphic octets → Graphic (field octets)
field_graphic octets h = graphic_joined octets (space ∷ []) h (graphic_from (space ∷ []) refl)

fields_graphic : (v : Value) → Fits v → Plain v → Graphic (fields_text v)
unfolding fields_text
fields_graphic v fits h =
    graphic_joined _ _ (field_graphic (decimal v.index) (decimal_graphic v.index fits.index))
    (graphic_joined _ _ (field_graphic v.kind (word_graphic v.kind h.kind))
    (graphic_joined _ _ (field_graphic _ (decimal_graphic _ (ttl_number v fits)))
    (field_graphic (permission_digits v.permissions) (permissions_graphic v.permissions))))

-- ---- data

text_line : (octets : List ℕ) → is_text octets ≡ true → is_line (codes "UTF8 " ++ octets) ≡ true
text_line octets h =
    let some = and_parts (not (eqb (length octets) 0)) (not (has_end space octets) && is_line octets) h in
    let own = and_parts (not (has_end space octets)) (is_line octets) some.1 in
    line_joined (codes "UTF8 ") octets (graphic_line (codes "UTF8 ") (graphic_from (codes "UTF8 ") refl)) own.1

plain_line : (v : Value) → Fits v → is_line (plain_text v.bytes) ≡ true
plain_line v fits = elim (either (is_text v.bytes)) [
  | inl text ↦ rw text (text_line v.bytes text)
  | inr other ↦ elim (either (eqb (length v.bytes) 0)) [
    | inl none ↦ rw (other, none) (graphic_line (codes "HEX") (graphic_from (codes "HEX") refl))
    | inr some ↦
        rw (other, some)
        (graphic_line (codes "HEX " ++ encode_lower v.bytes)
        (graphic_joined (codes "HEX ") (encode_lower v.bytes) (graphic_from (codes "HEX ") refl) (encoded_graphic v.bytes fits.bytes.each)))
  ]
]

reference_graphic : (r : RawRef) → r.index < 2 ^ 32 → is_word r.handle ≡ true → Graphic (reference_text r)
reference_graphic r i w =
    graphic_joined (decimal r.index) (colon ∷ r.handle) (decimal_graphic r.index i) ((omega arith, omega arith), word_graphic r.handle w)

references_graphic : (rs : List RawRef) → Worded rs → Graphic (flat_map (λ r. space ∷ reference_text r) rs)
references_graphic [] h = tt
references_graphic (r ∷ rs) h =
    graphic_joined (space ∷ reference_text r) (flat_map (λ q. space ∷ reference_text q) rs)
    ((omega arith, omega arith), reference_graphic r h.0.0 h.0.1)
    (references_graphic rs h.1)

list_line : (v : Value) → Fits v → (o : Option (List RawRef)) → list_read v ≡ o → is_line (unwrap_or (o >>= list_words) (plain_text v.bytes)) ≡ true
list_line v fits None e = plain_line v fits
list_line v fits (Some []) e = plain_line v fits
list_line v fits (Some (r ∷ rs)) e =
    let good : IsListData v.bytes (r ∷ rs) = list_in_is v.bytes (r ∷ rs) fits.bytes.each (if_some (is_list v) (list_in v.bytes) (r ∷ rs) e) in
    let some : eqb (length (r ∷ rs)) 0 ≡ false = ne_eqb _ _ (λ e. omega (arith, e)) in
    elim (either (list_all (λ (q : RawRef). is_word q.handle) (r ∷ rs))) [
      | inl words ↦
          let h = worded_from (r ∷ rs) good.fits.each good.handles words in
          let more = flat_map (λ (q : RawRef). space ∷ reference_text q) (r ∷ rs) in
          rw (some, words) (graphic_line (codes "LIST" ++ more) (graphic_joined (codes "LIST") more (graphic_from (codes "LIST") refl) (references_graphic (r ∷ rs) h)))
      | inr other ↦ rw (some, other) (plain_line v fits)
    ]

admin_graphic : (mask : ℕ) (r : RawRef) → r.index < 2 ^ 32 → is_word r.handle ≡ true → Graphic (codes "ADMIN " ++ (decimal r.index ++ colon ∷ (bits 12 mask ++ colon ∷ r.handle)))
admin_graphic mask r i w =
    let handle : Graphic (colon ∷ r.handle) = ((omega arith, omega arith), word_graphic r.handle w) in
    let behind : Graphic (colon ∷ (bits 12 mask ++ colon ∷ r.handle)) = ((omega arith, omega arith), graphic_joined (bits 12 mask) (colon ∷ r.handle) (bits_graphic 12 mask) handle) in
    graphic_joined (codes "ADMIN ") (decimal r.index ++ colon ∷ (bits 12 mask ++ colon ∷ r.handle)) (graphic_from (codes "ADMIN ") refl)
    (graphic_joined (decimal r.index) (colon ∷ (bits 12 mask ++ colon ∷ r.handle)) (decimal_graphic r.index i) behind)

admin_line : (v : Value) → Fits v → (o : Option (ℕ × RawRef)) → admin_read v ≡ o → is_line (unwrap_or (o >>= admin_words) (unwrap_or (list_text v) (plain_text v.bytes))) ≡ true
admin_line v fits None e = list_line v fits (list_read v) refl
admin_line v fits (Some x) e =
    let good : IsAdminData v.bytes x.0 x.1 = admin_in_is v.bytes x.0 x.1 fits.bytes.each (if_some (is_admin v) (admin_in v.bytes) x e) in
    elim (either (ltb x.0 (2 ^ 12) && is_word x.1.handle)) [
      | inl both ↦
          let word = (and_parts (ltb x.0 (2 ^ 12)) (is_word x.1.handle) both).1 in
          rw both (graphic_line (codes "ADMIN " ++ (decimal x.1.index ++ colon ∷ (bits 12 x.0 ++ colon ∷ x.1.handle))) (admin_graphic x.0 x.1 good.ref_fits.index word))
      | inr other ↦ rw other (list_line v fits (list_read v) refl)
    ]

data_line : (v : Value) → Fits v → is_line (data_text v) ≡ true
unfolding data_text
data_line v fits = admin_line v fits (admin_read v) refl

-- ---- lines

octets_line : (v : Value) → Fits v → is_line (codes "OCTETS " ++ encode_lower (spelling v)) ≡ true
octets_line v fits =
    graphic_line (codes "OCTETS " ++ encode_lower (spelling v)) (graphic_joined (codes "OCTETS ") (encode_lower (spelling v)) (graphic_from (codes "OCTETS ") refl) (encoded_graphic (spelling v) (spelling_octets v fits)))

line_of_line : (v : Value) → Fits v → is_line (line_of v) ≡ true
unfolding line_of
line_of_line v fits = elim (either (has_fields v)) [
  | inl fields ↦ rw fields (line_joined (fields_text v) (data_text v) (graphic_line (fields_text v) (fields_graphic v fits (plain_from v fields))) (data_line v fits))
  | inr other ↦ rw other (octets_line v fits)
]

pub written_is_printed_lem : (v : Value) → Fits v → printed_octets (line_of v) ≡ line_of v
written_is_printed_lem v fits = printed_same (line_of v) (line_of_line v fits)

-- ---- hidden keys

-- HIDDEN isn't a number
hidden_no_number : number_in (codes "HIDDEN") ≡ None
hidden_no_number =
    no_number (codes "HIDDEN")
    (λ n lt e.
    let digits : AllDigits 10 (codes "HIDDEN") = subst (AllDigits 10) (sym e) (decimal_digits n lt) in
    let range = digit_from_value 72 digits.0 in
    omega (arith, range.1))

hidden_no_ttl : (count : Option ℕ) → number_at (hidden_data count) ≡ None
unfolding number_at
hidden_no_ttl None = refl
hidden_no_ttl (Some count) = rw hidden_no_number refl

hidden_is_told : (count : Option ℕ) → ttl_fault (hidden_data count) ≡ fault.Hidden
hidden_is_told None = refl
hidden_is_told (Some count) = refl

in_a_row : (i k d : List ℕ) → field i ++ (field k ++ d) ≡ i ++ space ∷ (k ++ space ∷ d)
in_a_row i k d = simp append_assoc

hidden_refused : (index : ℕ) (kind : List ℕ) (count : Option ℕ) → index < 2 ^ 32 → is_word kind ≡ true → value_in (hidden_text index kind count) ≡ Err fault.Hidden
unfolding value_in value_in_fields
hidden_refused index kind count lt word =
    ap value_in (in_a_row (decimal index) kind (hidden_data count))
    ∙ rw (cut_again space (decimal index) (kind ++ space ∷ hidden_data count) (decimal_lacks_space index lt))
    (rw (number_no_octets index lt, number_again index lt)
    (rw (word_again kind (hidden_data count) word)
    (rw (hidden_no_ttl count) (ap Err (hidden_is_told count)))))

hidden_graphic : (count : Option ℕ) → IfSome count (λ n. n < 2 ^ 32) → Graphic (hidden_data count)
hidden_graphic None h = graphic_from (codes "HIDDEN") refl
hidden_graphic (Some count) h =
    graphic_joined (codes "HIDDEN ") (decimal count ++ codes " octets") (graphic_from (codes "HIDDEN ") refl)
    (graphic_joined (decimal count) (codes " octets") (decimal_graphic count h) (graphic_from (codes " octets") refl))

pub hidden_is_refused_lem : (index : ℕ) (count : Option ℕ) → index < 2 ^ 32 → IfSome count (λ n. n < 2 ^ 32) → IsHiddenText (hidden_text index secret_key_kind count)
hidden_is_refused_lem index count lt small =
    let graphic : Graphic (hidden_text index secret_key_kind count) =
    graphic_joined (field (decimal index)) (field secret_key_kind ++ hidden_data count) (field_graphic (decimal index) (decimal_graphic index lt))
    (graphic_joined (field secret_key_kind) (hidden_data count) (graphic_from (field secret_key_kind) refl) (hidden_graphic count small)) in
    record { refused = hidden_refused index secret_key_kind count lt refl; as_it_is = printed_same (hidden_text index secret_key_kind count) (graphic_line (hidden_text index secret_key_kind count) graphic) }
