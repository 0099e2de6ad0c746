-- The reader of values in the layout of the Handle.Net software, and of values in either layout.
use Rattle.std.proofs.Common.{◌≡◌, ℕ, ◌+◌, ◌*◌, ◌/◌, ◌^◌, ◌-◌, ◌<◌, Bool, true, false, cond, ltb, List, [], ◌∷◌, ◌++◌, length, Option, Some, refl, sym, ap, subst, ◌∙◌, append_assoc, arith}
use Rattle.std.specs.List.{flat_map}
use Rattle.std.specs.Int.{w32, to_be_bytes}
use Rattle.std.proofs.lemmas.Bool.{ltb-true, lt-ltb}
use Rattle.std.proofs.lemmas.List.{append-nil}
use Rattle.std.proofs.lemmas.Nat.{div-mul-add}
use Rattle.hdl_limits.specs.Octets.{AreOctets}
use Rattle.hdl_value.specs.declared.references.RawReferences.{RawReferences}
use Rattle.hdl_value.specs.declared.value.Value.{Value}
use Rattle.hdl_value.specs.declared.wire.Wire.{Wire}
use Rattle.hdl_value.specs.declared.wire.Wire.TheVariants.{Profile, HandleNet}
use Rattle.hdl_value.specs.Cut.{refs_view, IsWhole}
use Rattle.hdl_value.specs.HandleNet.{second_of, moment_of, second_at, net_value_of, net_fields_of, net_value_at, net_spelling, IsSecond, NetFits, by_second}
use Rattle.hdl_value.specs.Reading.{◌>>=◌, number_at, octets_at, octet_at, string_at, seen_at, Takes, IsCodec}
use Rattle.hdl_value.specs.Spelling.{string, reference, references, ref_at, refs_at, IsString, RefFits, ListFits, Fits}
use Rattle.hdl_value.specs.Wires.{wire_value_at, wire_spelling, WireFits, wire_seen}
use Rattle.hdl_value.proofs.FieldLaws.{bind_some, some_is, IsLong, wide32}
use Rattle.hdl_value.proofs.Codecs.{number_codec, octets_codec, octet_codec, string_codec, pair_codec, seen_codec, many_codec}
use Rattle.hdl_value.proofs.Values.{refit, ref_codec, refs_codec, value_codec}

-- the same reader, seen as another type that has more: those fit that are seen of something
pub viewed_codec : {A B : Type 0} (r : List ℕ → Option (A × List ℕ)) (w : A → List ℕ) (f : A → Type 0) (view : A → B) (back : B → A) → ((a : A) → f a → back (view a) ≡ a) → IsCodec r w f
    → IsCodec (seen_at view r) (λ b. w (back b)) (λ b. f (back b) × (view (back b) ≡ b))
viewed_codec {A} {B} r w f view back from c = record {
  takes = λ bytes x rest fits e.
      let a = bind_some (r bytes) (λ a. Some (view a.0, a.1)) (x, rest) e in
      let t = c.takes bytes a.0.0 a.0.1 fits a.1 in
      let same : back (view a.0.0) ≡ a.0.0 = from a.0.0 t.1 in
      let made : B × List ℕ = (view a.0.0, a.0.1) in
      let seen : Takes bytes (w (back (view a.0.0))) a.0.1 × (f (back (view a.0.0)) × (view (back (view a.0.0)) ≡ view a.0.0)) =
      (subst (λ (y : A). Takes bytes (w y) a.0.1) (sym same) t.0, (subst (λ (y : A). f y) (sym same) t.1, ap view same)) in
      subst (λ (y : B × List ℕ). Takes bytes (w (back y.0)) y.1 × (f (back y.0) × (view (back y.0) ≡ y.0))) (some_is made (x, rest) a.2) seen;
  again = λ x rest fits. rw (c.again (back x) rest fits.0) (ap (λ (b : B). Some (b, rest)) fits.1);
}

-- ---- seconds

begins_at : (s : ℕ) → s * 1000 / 1000 ≡ s
begins_at s = ap (λ (n : ℕ). n / 1000) (let e : s * 1000 ≡ s * 1000 + 0 = omega arith in e) ∙ div-mul-add s 1000 0 (omega arith)

pub second_back : (s : ℕ) → s < 2 ^ 32 → second_of (moment_of s) ≡ s
second_back s lt = rw (begins_at s, lt-ltb s (2 ^ 32) lt) refl

below_by : (b : Bool) (n : ℕ) → ltb n (2 ^ 32) ≡ b → cond b n (2 ^ 32 - 1) < 2 ^ 32
below_by true n e = ltb-true n (2 ^ 32) e
below_by false n e = omega arith

pub second_below : (m : ℕ) → second_of m < 2 ^ 32
second_below m = below_by (ltb (m / 1000) (2 ^ 32)) (m / 1000) refl

moment_fits : (s t : ℕ) → s < 2 ^ 32 → s * 1000 ≡ t → t < 2 ^ 64
moment_fits s t lt e = omega (arith, lt, e)

abbrev SecondFits : ℕ → Type 0
SecondFits m = (second_of m < 2 ^ 32) × IsSecond m

second_codec : IsCodec second_at (λ m. to_be_bytes w32 (second_of m)) SecondFits
unfolding second_at
second_codec = viewed_codec (number_at w32) (to_be_bytes w32) (λ n. n < 2 ^ 32) moment_of second_of second_back (number_codec w32 (2 ^ 32) wide32)

-- ---- values

pub net_codec : IsCodec net_value_at net_spelling NetFits
unfolding net_value_at net_spelling
net_codec =
    let bytes_on = pair_codec string_at string IsString refs_at references ListFits string_codec refs_codec in
    let kind_on = pair_codec string_at string IsString _ _ _ string_codec bytes_on in
    let perm_on = pair_codec octet_at (λ b. b ∷ []) (λ b. b < 2 ^ 8) _ _ _ octet_codec kind_on in
    let ttl_on = pair_codec (octets_at 5) (λ t. t) (IsLong 5) _ _ _ (octets_codec 5) perm_on in
    let stamp_on = pair_codec second_at (λ m. to_be_bytes w32 (second_of m)) SecondFits _ _ _ second_codec ttl_on in
    let all = pair_codec (number_at w32) (to_be_bytes w32) (λ n. n < 2 ^ 32) _ _ _ (number_codec w32 (2 ^ 32) wide32) stamp_on in
    refit net_value_at net_spelling _ NetFits
    (λ v h. record {
      fits = record { index = h.0; kind = h.1.1.1.1.0; bytes = h.1.1.1.1.1.0; ttl = h.1.1.0.0; ttl_octets = h.1.1.0.1; permissions = h.1.1.1.0; timestamp = moment_fits (second_of v.timestamp) v.timestamp h.1.0.0 h.1.0.1; references = h.1.1.1.1.1.1 };
      second = h.1.0.1;
    })
    (λ v h. let f = h.fits in (f.index, ((second_below v.timestamp, h.second), ((f.ttl, f.ttl_octets), (f.permissions, (f.kind, (f.bytes, f.references)))))))
    (seen_codec _ _ _ net_value_of net_fields_of (λ _. refl) (λ _. refl) all)

by_second_fits : (v : Value) → Fits v → NetFits (by_second v)
by_second_fits v f =
    let back = second_back (second_of v.timestamp) (second_below v.timestamp) in
    record {
      fits = record { index = f.index; kind = f.kind; bytes = f.bytes; ttl = f.ttl; ttl_octets = f.ttl_octets; permissions = f.permissions; timestamp = moment_fits (second_of v.timestamp) (moment_of (second_of v.timestamp)) (second_below v.timestamp) refl; references = f.references };
      second = ap moment_of back;
    }

same_spelling : (v : Value) → net_spelling v ≡ net_spelling (by_second v)
unfolding net_spelling
same_spelling v =
    ap (λ (s : ℕ). to_be_bytes w32 v.index ++ (to_be_bytes w32 s ++ (v.ttl ++ (v.permissions ∷ [] ++ (string v.kind ++ (string v.bytes ++ references v.references))))))
    (sym (second_back (second_of v.timestamp) (second_below v.timestamp)))

pub read_by_second : (v : Value) (rest : List ℕ) → Fits v → net_value_at (net_spelling v ++ rest) ≡ Some (by_second v, rest)
read_by_second v rest fits = ap (λ (s : List ℕ). net_value_at (s ++ rest)) (same_spelling v) ∙ net_codec.again (by_second v) rest (by_second_fits v fits)

-- ---- by either layout

pub wire_codec : (wire : Wire) → IsCodec (wire_value_at wire) (wire_spelling wire) (WireFits wire)
wire_codec Profile = value_codec
wire_codec HandleNet = net_codec

pub fits_by_wire : (wire : Wire) (v : Value) → WireFits wire v → Fits v
fits_by_wire Profile v h = h
fits_by_wire HandleNet v h = h.fits

-- what is read fits
pub fits_read : (wire : Wire) (s rest : List ℕ) (v : Value) → AreOctets s → wire_value_at wire s ≡ Some (v, rest) → Fits v
fits_read wire s rest v octets e = fits_by_wire wire v ((wire_codec wire).takes s v rest octets e).1

-- ---- writing

regroup : (o a b c : List ℕ) (p : ℕ) (d e f : List ℕ) → o ++ a ++ b ++ c ++ (p ∷ []) ++ d ++ e ++ f ≡ o ++ (a ++ (b ++ (c ++ (p ∷ (d ++ (e ++ f))))))
regroup o a b c p d e f = simp append_assoc

pub net_written : (o x1 x2 x3 x4 x5 x6 x7 : List ℕ) (v : Value) → x1 ≡ o ++ to_be_bytes w32 v.index → x2 ≡ x1 ++ to_be_bytes w32 (second_of v.timestamp) → x3 ≡ x2 ++ v.ttl → x4 ≡ x3 ++ v.permissions ∷ [] → x5 ≡ x4 ++ string v.kind → x6 ≡ x5 ++ string v.bytes → x7 ≡ x6 ++ references v.references → x7 ≡ o ++ net_spelling v
unfolding net_spelling
net_written o x1 x2 x3 x4 x5 x6 x7 v e1 e2 e3 e4 e5 e6 e7 =
    e7 ∙ ap (λ (x : List ℕ). x ++ references v.references)
    (e6 ∙ ap (λ (x : List ℕ). x ++ string v.bytes)
    (e5 ∙ ap (λ (x : List ℕ). x ++ string v.kind)
    (e4 ∙ ap (λ (x : List ℕ). x ++ v.permissions ∷ [])
    (e3 ∙ ap (λ (x : List ℕ). x ++ v.ttl)
    (e2 ∙ ap (λ (x : List ℕ). x ++ to_be_bytes w32 (second_of v.timestamp)) e1)))))
    ∙ regroup o (to_be_bytes w32 v.index) (to_be_bytes w32 (second_of v.timestamp)) v.ttl v.permissions (string v.kind) (string v.bytes) (references v.references)

-- references that were cut are spelt by their count and their octets
pub refs_octets : (r : RawReferences) → AreOctets r.octets.now → IsWhole r → to_be_bytes w32 r.count ++ r.octets.now ≡ references (refs_view r)
refs_octets r fits whole =
    let codec = many_codec ref_at reference RefFits r.count ref_codec in
    let t = codec.takes r.octets.now (refs_view r) [] fits whole.all in
    let text : r.octets.now ≡ flat_map reference (refs_view r) = t.0.parts ∙ append-nil (flat_map reference (refs_view r)) in
    ap (λ (n : ℕ). to_be_bytes w32 n ++ r.octets.now) (sym whole.count) ∙ ap (λ (x : List ℕ). to_be_bytes w32 (length (refs_view r)) ++ x) text

-- what is written of a value is what is written of it as its reader sees it
pub same_by_wire : (wire : Wire) (v : Value) → wire_spelling wire (wire_seen wire v) ≡ wire_spelling wire v
same_by_wire Profile v = refl
same_by_wire HandleNet v = sym (same_spelling v)

pub seen_fits : (wire : Wire) (v : Value) → Fits v → WireFits wire (wire_seen wire v)
seen_fits Profile v fits = fits
seen_fits HandleNet v fits = by_second_fits v fits
