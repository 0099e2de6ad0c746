-- The line of a value is read as it.
use Rattle.std.proofs.Common.{◌≡◌, ℕ, zero, suc, ◌^◌, ◌<◌, Bool, true, false, cond, eqb, ltb, List, [], ◌∷◌, ◌++◌, length, get_or, drop, map, Option, Some, None, refl, sym, ap, subst, ◌∙◌, append_assoc, arith, inl, inr, Ok}
use Rattle.std.specs.Prelude.{decimal, codes, ◌&&◌, unwrap_or, ok_or}
use Rattle.std.specs.Result.{result_ok}
use Rattle.std.specs.List.{AllByRecursion, flat_map, list_all, slice_split}
use Rattle.std.specs.Int.{w32, w64, to_be_bytes, from_be_bytes}
use Rattle.std.specs.Str.{bytes_eq}
use Rattle.std.specs.Str.Parse.{AllDigits}
use Rattle.std.proofs.lemmas.Bool.{eqb-true, ne_eqb, ltb-true, lt-ltb, and_parts, false_from_ne_true}
use Rattle.std.proofs.lemmas.List.{append-nil, nil_from_length}
use Rattle.std.proofs.lemmas.Slice.Eq.{bytes_eq-Decides}
use Rattle.std.proofs.lemmas.Str.Parse.{digit_from_value}
use Rattle.hex.specs.Hex.{encode_with, encode_lower}
use Rattle.hex.proofs.HexLemmas.{decode_of-encode_lower}
use Rattle.hdl_limits.specs.Octets.{AreOctets}
use Rattle.hdl_name.specs.Name.{IsHandle}
use Rattle.hdl_name.specs.Tests.{is_handle}
use Rattle.hdl_name.proofs.Equal.{handle_decides}
use Rattle.hdl_value.specs.declared.references.RawRef.{RawRef}
use Rattle.hdl_value.specs.declared.value.Value.{Value}
use Rattle.hdl_value.specs.Spelling.{string, reference, references, spelling, IsString, RefFits, Fits}
use Rattle.hdl_value.specs.Reading.{◌>>=◌}
use Rattle.hdl_value.specs.Data.{IsAdminData, IsListData}
use Rattle.hdl_value.specs.Refs.{is_admin, is_list, admin_in, list_in, admin_read, list_read}
use Rattle.hdl_value.proofs.DataRead.{admin_in_is, list_in_is}
use Rattle.hdl_value.proofs.FieldLaws.{AreOctets-drop, wide32}
use Rattle.hdl_value.specs.Permission.{bits}
use Rattle.hdl_value_lines.specs.Fields.{space, colon, is_word, is_text, is_handle_word, permission_digits}
use Rattle.hdl_value_lines.specs.declared.fault.LineFault.TheVariants as fault
use Rattle.hdl_value_lines.specs.Data.{admin_parts, reference_in, each_in, references_in, hex_in, admin_words, reference_text, list_words, list_text, plain_text, data_text}
use Rattle.hdl_value_lines.specs.Lines.{data_in, without_stamp, value_in_octets, value_in_digits, value_in_fields, value_in, has_fields, field, fields_text, line_of}
use Rattle.hdl_value_lines.proofs.Readings.{either, Lacks, cut_again, word_again, is_word_lacks, decimal_digits, decimal_lacks_space, decimal_lacks_colon, number_again, number_field_again, bits_lack_colon, mask_again, permissions_field_again}
use Rattle.hdl_value_lines.proofs.Spelt.{spelt_again}

-- ---- octets

abbrev Octets : List ℕ → Type 0
Octets octets = AllByRecursion (λ octet. octet < 256) octets

octets_at : (octets : List ℕ) → Octets octets → AreOctets octets
octets_at [] h i = omega arith
octets_at (octet ∷ octets) h zero = h.0
octets_at (octet ∷ octets) h (suc i) = octets_at octets h.1 i

octets_from : (octets : List ℕ) → AreOctets octets → Octets octets
octets_from [] h = tt
octets_from (octet ∷ octets) h = (h 0, octets_from octets (λ i. h (suc i)))

octets_joined : (a b : List ℕ) → Octets a → Octets b → Octets (a ++ b)
octets_joined [] b h k = k
octets_joined (octet ∷ a) b h k = (h.0, octets_joined a b h.1 k)

octets32 : (n : ℕ) → Octets (to_be_bytes w32 n)
octets32 n = (omega arith, (omega arith, (omega arith, (omega arith, tt))))

octets64 : (n : ℕ) → Octets (to_be_bytes w64 n)
octets64 n = (omega arith, (omega arith, (omega arith, (omega arith, (omega arith, (omega arith, (omega arith, (omega arith, tt))))))))

string_octets : (s : List ℕ) → IsString s → Octets (string s)
string_octets s h = octets_joined (to_be_bytes w32 (length s)) s (octets32 (length s)) (octets_from s h.each)

refs_octets : (rs : List RawRef) → AllByRecursion RefFits rs → Octets (flat_map reference rs)
refs_octets [] h = tt
refs_octets (r ∷ rs) h =
    octets_joined (reference r) (flat_map reference rs)
    (octets_joined (string r.handle) (to_be_bytes w32 r.index) (string_octets r.handle h.0.handle) (octets32 r.index))
    (refs_octets rs h.1)

pub spelling_octets : (v : Value) → Fits v → AreOctets (spelling v)
unfolding spelling
spelling_octets v h =
    let behind_stamp = references v.references in
    let behind_ttl = v.permissions ∷ (to_be_bytes w64 v.timestamp ++ behind_stamp) in
    let behind_bytes = v.ttl ++ behind_ttl in
    let behind_kind = string v.bytes ++ behind_bytes in
    let refs = octets_joined (to_be_bytes w32 (length v.references)) (flat_map reference v.references) (octets32 (length v.references)) (refs_octets v.references h.references.each) in
    let permissions : Octets behind_ttl = (h.permissions, octets_joined (to_be_bytes w64 v.timestamp) behind_stamp (octets64 v.timestamp) refs) in
    let ttl = octets_joined v.ttl behind_ttl (octets_from v.ttl h.ttl_octets) permissions in
    let bytes = octets_joined (string v.bytes) behind_bytes (string_octets v.bytes h.bytes) ttl in
    let kind = octets_joined (string v.kind) behind_kind (string_octets v.kind h.kind) bytes in
    octets_at (spelling v) (octets_joined (to_be_bytes w32 v.index) (string v.kind ++ behind_kind) (octets32 v.index) kind)

-- ---- data

hex_again : (octets : List ℕ) → AreOctets octets → hex_in (encode_lower octets) ≡ Some octets
hex_again octets h = ap result_ok (decode_of-encode_lower octets h)

text_again : (text : List ℕ) → is_text text ≡ true → data_in (codes "UTF8 " ++ text) ≡ Ok text
unfolding data_in
text_again text h = rw h refl

digits_again : (octets : List ℕ) → AreOctets octets → data_in (codes "HEX " ++ encode_lower octets) ≡ Ok octets
unfolding data_in
digits_again octets h = ap (λ (o : Option (List ℕ)). ok_or o fault.Hex) (hex_again octets h)

nothing_again : data_in (codes "HEX") ≡ Ok []
unfolding data_in encode_with
nothing_again = ap (λ (o : Option (List ℕ)). ok_or o fault.Hex) (hex_again [] (octets_at [] tt))

plain_again : (octets : List ℕ) → AreOctets octets → data_in (plain_text octets) ≡ Ok octets
plain_again octets h = elim (either (is_text octets)) [
  | inl text ↦ rw text (text_again octets text)
  | inr other ↦ elim (either (eqb (length octets) 0)) [
    | inl none ↦ let empty : octets ≡ [] = nil_from_length octets (eqb-true _ _ none) in rw (other, none) (nothing_again ∙ ap Ok (sym empty))
    | inr some ↦ rw (other, some) (digits_again octets h)
  ]
]

-- ---- references

handle_word : (word : List ℕ) → is_word word ≡ true → is_handle word ≡ true → is_handle_word word ≡ true
handle_word word w h = rw w h

admin_parts_again : (mask index : ℕ) (handle : List ℕ) → mask < 2 ^ 12 → index < 2 ^ 32 → is_handle_word handle ≡ true → admin_parts (decimal index ++ colon ∷ (bits 12 mask ++ colon ∷ handle)) ≡ Some (mask, record { handle = handle; index = index })
unfolding admin_parts
admin_parts_again mask index handle m i h =
    rw (cut_again colon (decimal index) (bits 12 mask ++ colon ∷ handle) (decimal_lacks_colon index i))
    (rw (number_again index i) (rw (cut_again colon (bits 12 mask) handle (bits_lack_colon 12 mask)) (rw (mask_again mask m) (rw h refl))))

reference_again : (r : RawRef) → r.index < 2 ^ 32 → is_handle_word r.handle ≡ true → reference_in (reference_text r) ≡ Some r
unfolding reference_in
reference_again r i h =
    rw (cut_again colon (decimal r.index) r.handle (decimal_lacks_colon r.index i)) (rw (number_again r.index i) (rw h refl))

abbrev pub Worded : List RawRef → Type 0
Worded rs = AllByRecursion (λ r. (r.index < 2 ^ 32) × (is_word r.handle ≡ true) × (is_handle r.handle ≡ true)) rs

each_again : (rs : List RawRef) → Worded rs → each_in (map reference_text rs) ≡ Some rs
each_again [] h = refl
each_again (r ∷ rs) h = rw (reference_again r h.0.0 (handle_word r.handle h.0.1 h.0.2), each_again rs h.1) refl

abbrev is_space : ℕ → Bool
is_space octet = eqb octet space

split_at_space : (word rest : List ℕ) → Lacks space word → slice_split is_space (word ++ space ∷ rest) ≡ word ∷ slice_split is_space rest
split_at_space [] rest h = refl
split_at_space (octet ∷ word) rest h = rw (h.0, split_at_space word rest h.1) refl

split_last : (word : List ℕ) → Lacks space word → slice_split is_space word ≡ word ∷ []
split_last [] h = refl
split_last (octet ∷ word) h = rw (h.0, split_last word h.1) refl

lacks_joined : (stop : ℕ) (a b : List ℕ) → Lacks stop a → Lacks stop b → Lacks stop (a ++ b)
lacks_joined stop [] b h k = k
lacks_joined stop (octet ∷ a) b h k = (h.0, lacks_joined stop a b h.1 k)

reference_lacks : (r : RawRef) → r.index < 2 ^ 32 → is_word r.handle ≡ true → Lacks space (reference_text r)
reference_lacks r i w = lacks_joined space (decimal r.index) (colon ∷ r.handle) (decimal_lacks_space r.index i) (refl, is_word_lacks r.handle w)

abbrev more_text : List RawRef → List ℕ
more_text rs = flat_map (λ r. space ∷ reference_text r) rs

words_again : (r : RawRef) (rs : List RawRef) → Worded (r ∷ rs) → slice_split is_space (reference_text r ++ more_text rs) ≡ map reference_text (r ∷ rs)
words_again r [] h = ap (slice_split is_space) (append-nil (reference_text r)) ∙ split_last (reference_text r) (reference_lacks r h.0.0 h.0.1)
words_again r (s ∷ rs) h =
    split_at_space (reference_text r) (reference_text s ++ more_text rs) (reference_lacks r h.0.0 h.0.1)
    ∙ ap (λ (words : List (List ℕ)). reference_text r ∷ words) (words_again s rs h.1)

references_again : (r : RawRef) (rs : List RawRef) → Worded (r ∷ rs) → references_in (reference_text r ++ more_text rs) ≡ Some (r ∷ rs)
references_again r rs h = ap each_in (words_again r rs h) ∙ each_again (r ∷ rs) h

list_again : (r : RawRef) (rs : List RawRef) → Worded (r ∷ rs) → length (r ∷ rs) < 2 ^ 32 → data_in (codes "LIST" ++ more_text (r ∷ rs)) ≡ Ok (references (r ∷ rs))
unfolding data_in
list_again r rs h few = rw (references_again r rs h) (rw (lt-ltb (length (r ∷ rs)) (2 ^ 32) few) refl)

pub worded_from : (rs : List RawRef) → AllByRecursion RefFits rs → AllByRecursion (λ r. IsHandle r.handle) rs → list_all (λ r. is_word r.handle) rs ≡ true → Worded rs
worded_from [] fits names words = tt
worded_from (r ∷ rs) fits names words =
    let both = and_parts (is_word r.handle) (list_all (λ (q : RawRef). is_word q.handle) rs) words in
    ((fits.0.index, both.0, (handle_decides r.handle).1 names.0), worded_from rs fits.1 names.1 both.1)

-- ---- the data of a value

pub if_some : {A : Type 0} (b : Bool) (o : Option A) (x : A) → cond b o None ≡ Some x → o ≡ Some x
if_some true o x e = e
if_some false o x e = absurd cc

list_data : (v : Value) → Fits v → (o : Option (List RawRef)) → list_read v ≡ o → data_in (unwrap_or (o >>= list_words) (plain_text v.bytes)) ≡ Ok v.bytes
list_data v fits None e = plain_again v.bytes fits.bytes.each
list_data v fits (Some []) e = plain_again v.bytes fits.bytes.each
list_data v fits (Some (r ∷ rs)) e =
    let good : IsListData v.bytes (r ∷ rs) = list_in_is v.bytes (r ∷ rs) fits.bytes.each (if_some (is_list v) (list_in v.bytes) (r ∷ rs) e) in
    let some : eqb (length (r ∷ rs)) 0 ≡ false = ne_eqb _ _ (λ e. omega (arith, e)) in
    elim (either (list_all (λ (q : RawRef). is_word q.handle) (r ∷ rs))) [
      | inl words ↦
          let h = worded_from (r ∷ rs) good.fits.each good.handles words in
          rw (some, words) (list_again r rs h good.fits.count ∙ ap Ok (sym good.layout))
      | inr other ↦ rw (some, other) (plain_again v.bytes fits.bytes.each)
    ]

admin_again : (mask : ℕ) (r : RawRef) (bytes : List ℕ) → IsAdminData bytes mask r → mask < 2 ^ 12 → is_word r.handle ≡ true → data_in (codes "ADMIN " ++ (decimal r.index ++ colon ∷ (bits 12 mask ++ colon ∷ r.handle))) ≡ Ok bytes
unfolding data_in
admin_again mask r bytes good small word =
    let handle = handle_word r.handle word ((handle_decides r.handle).1 good.handle) in
    rw (admin_parts_again mask r.index r.handle small good.ref_fits.index handle) (ap Ok (sym good.layout))

admin_data : (v : Value) → Fits v → (o : Option (ℕ × RawRef)) → admin_read v ≡ o → data_in (unwrap_or (o >>= admin_words) (unwrap_or (list_text v) (plain_text v.bytes))) ≡ Ok v.bytes
admin_data v fits None e = list_data v fits (list_read v) refl
admin_data v fits (Some x) e =
    let good : IsAdminData v.bytes x.0 x.1 = admin_in_is v.bytes x.0 x.1 fits.bytes.each (if_some (is_admin v) (admin_in v.bytes) x e) in
    elim (either (ltb x.0 (2 ^ 12) && is_word x.1.handle)) [
      | inl both ↦
          let parts = and_parts (ltb x.0 (2 ^ 12)) (is_word x.1.handle) both in
          rw both (admin_again x.0 x.1 v.bytes good (ltb-true x.0 (2 ^ 12) parts.0) parts.1)
      | inr other ↦ rw other (list_data v fits (list_read v) refl)
    ]

data_again : (v : Value) → Fits v → data_in (data_text v) ≡ Ok v.bytes
unfolding data_text
data_again v fits = admin_data v fits (admin_read v) refl

-- ---- lines

-- a number isn't the word OCTETS
pub number_no_octets : (n : ℕ) → n < 2 ^ 32 → bytes_eq (decimal n) (codes "OCTETS") ≡ false
number_no_octets n lt =
    false_from_ne_true _ (λ t.
    let same : decimal n ≡ codes "OCTETS" = (bytes_eq-Decides (decimal n) (codes "OCTETS")).0 t in
    let digits : AllDigits 10 (codes "OCTETS") = subst (AllDigits 10) same (decimal_digits n lt) in
    let range = digit_from_value 79 digits.0 in
    omega (arith, range.1))

octets_again : (v : Value) → Fits v → value_in (codes "OCTETS " ++ encode_lower (spelling v)) ≡ Ok (without_stamp v)
unfolding value_in value_in_digits value_in_octets
octets_again v fits = rw (hex_again (spelling v) (spelling_octets v fits)) (rw (spelt_again (spelling v) v fits refl) refl)

pub record Plain (v : Value) : Type 0 where
  pub how : get_or v.ttl 0 0 ≡ 0
  pub permissions : v.permissions < 2 ^ 4
  pub references : v.references ≡ []
  pub kind : is_word v.kind ≡ true

pub plain_from : (v : Value) → has_fields v ≡ true → Plain v
plain_from v h =
    let a = and_parts (eqb (get_or v.ttl 0 0) 0 && ltb v.permissions (2 ^ 4) && eqb (length v.references) 0) (is_word v.kind) h in
    let b = and_parts (eqb (get_or v.ttl 0 0) 0 && ltb v.permissions (2 ^ 4)) (eqb (length v.references) 0) a.0 in
    let d = and_parts (eqb (get_or v.ttl 0 0) 0) (ltb v.permissions (2 ^ 4)) b.0 in
    record { how = eqb-true _ _ d.0; permissions = ltb-true _ _ d.1; references = nil_from_length v.references (eqb-true _ _ b.1); kind = a.1 }

pub ttl_again : (ttl : List ℕ) → length ttl ≡ 5 → AreOctets ttl → get_or ttl 0 0 ≡ 0 → 0 ∷ to_be_bytes w32 (from_be_bytes w32 (drop 1 ttl)) ≡ ttl
ttl_again [] len fits how = absurd (omega (arith, len))
ttl_again (octet ∷ rest) len fits how =
    let back = wide32.back rest (omega (arith, len)) (λ i. fits (suc i)) in
    ap (λ (more : List ℕ). 0 ∷ more) back ∙ ap (λ (o : ℕ). o ∷ rest) (sym how)

in_a_row : (i k t p d : List ℕ) → field i ++ (field k ++ (field t ++ field p)) ++ d ≡ i ++ space ∷ (k ++ space ∷ (t ++ space ∷ (p ++ space ∷ d)))
in_a_row i k t p d = simp append_assoc

-- the value of its parts
value_made : (v : Value) → Fits v → Plain v → record { index = v.index; kind = v.kind; bytes = v.bytes; ttl = 0 ∷ to_be_bytes w32 (from_be_bytes w32 (drop 1 v.ttl)); permissions = v.permissions; timestamp = 0; references = [] } ≡ without_stamp v
value_made v fits h =
    let ttl = ttl_again v.ttl fits.ttl fits.ttl_octets h.how in
    let refs = sym h.references in
    λ i. record { index = v.index; kind = v.kind; bytes = v.bytes; ttl = ttl i; permissions = v.permissions; timestamp = 0; references = refs i }

pub ttl_number : (v : Value) → Fits v → from_be_bytes w32 (drop 1 v.ttl) < 2 ^ 32
ttl_number v fits = wide32.below (drop 1 v.ttl) (AreOctets-drop 1 v.ttl fits.ttl_octets)

fields_again : (v : Value) → Fits v → Plain v → value_in (fields_text v ++ data_text v) ≡ Ok (without_stamp v)
unfolding value_in value_in_fields fields_text
fields_again v fits h =
    let ttl = from_be_bytes w32 (drop 1 v.ttl) in
    ap value_in (in_a_row (decimal v.index) v.kind (decimal ttl) (permission_digits v.permissions) (data_text v))
    ∙ rw (cut_again space (decimal v.index) (v.kind ++ space ∷ (decimal ttl ++ space ∷ (permission_digits v.permissions ++ space ∷ data_text v))) (decimal_lacks_space v.index fits.index))
    (rw (number_no_octets v.index fits.index, number_again v.index fits.index)
    (rw (word_again v.kind (decimal ttl ++ space ∷ (permission_digits v.permissions ++ space ∷ data_text v)) h.kind)
    (rw (number_field_again ttl (permission_digits v.permissions ++ space ∷ data_text v) (ttl_number v fits))
    (rw (permissions_field_again v.permissions (data_text v) h.permissions)
    (rw (data_again v fits)
    (ap Ok (value_made v fits h)))))))

pub written_is_read_lem : (v : Value) → Fits v → value_in (line_of v) ≡ Ok (without_stamp v)
unfolding line_of
written_is_read_lem v fits = elim (either (has_fields v)) [
  | inl fields ↦ rw fields (fields_again v fits (plain_from v fields))
  | inr other ↦ rw other (octets_again v fits)
]
