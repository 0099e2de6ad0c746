-- The canonical form of a name is a name.
use Rattle.std.proofs.Common.{◌≡◌, ℕ, ◌+◌, ◌<◌, Bool, true, false, cond, eqb, List, [], ◌∷◌, ◌++◌, length, get_or, map, refl, sym, ap, subst, ◌∙◌, arith}
use Rattle.std.specs.Prelude.{Contains, codes}
use Rattle.std.specs.List.{join_with_byte, position_or_len}
use Rattle.std.specs.Char.{to_ascii_lowercase}
use Rattle.std.specs.Str.{IsUtf8, bytes_eq}
use Rattle.std.proofs.lemmas.Bool.{both_ways, eq-eqb, eqb-true, ne_eqb, eqb-false}
use Rattle.std.proofs.lemmas.Bool.Decides.{nat_tests}
use Rattle.std.proofs.lemmas.List.{map-append, length-map, length-append}
use Rattle.std.proofs.lemmas.List.Elements.{All-map, All-weaker}
use Rattle.std.proofs.lemmas.List.Sums.{passes_at_first}
use Rattle.std.proofs.lemmas.Str.{IsUtf8-append, IsUtf8-take, IsUtf8-drop, IsUtf8-encode, encode_ascii, IsCharBoundary-before_ascii, IsCharBoundary-after_ascii}
use Rattle.std_alloc.proofs.string.Cased.{lowered}
use Rattle.hdl_name.specs.Name.{dot, slash, is_slash, IsSegment, IsAuthority, is_admin_authority, IsHandle, sent_authority, sent_local, is_admin, authority, local, canonical}
use Rattle.hdl_name.proofs.Grammar.{differs, cut_at_slash, handle_authority, handle_local}
use Rattle.hdl_name.proofs.Equal.{inside_of_handle, lower_twice}

lower_differs : (c : ℕ) → c < 65 → (x : ℕ) → eqb x c ≡ false → eqb (to_ascii_lowercase x) c ≡ false
lower_differs c small x e = ne_eqb (to_ascii_lowercase x) c (λ h. let n = eqb-false x c e in grind (arith, nat_tests))

-- an octet that is no letter isn't among lowered octets where it wasn't among them before
lower_lacks : (c : ℕ) → c < 65 → (xs : List ℕ) → ¬ (Contains xs c) → ¬ (Contains (map to_ascii_lowercase xs) c)
lower_lacks c small xs h k =
    let each = All-map (λ y. eqb y c ≡ false) to_ascii_lowercase xs (All-weaker (λ y. eqb y c ≡ false) (λ y. eqb (to_ascii_lowercase y) c ≡ false) (lower_differs c small) xs (differs c xs h)) in
    both_ways _ (each k.0 c k.1) (eq-eqb _ _ k.2)

lower_segment : (xs : List ℕ) → IsSegment xs → IsSegment (map to_ascii_lowercase xs)
lower_segment xs h = record {
  some = let len = length-map xs to_ascii_lowercase in omega (arith, len, h.some);
  no_dot = lower_lacks dot (omega arith) xs h.no_dot;
  no_slash = lower_lacks slash (omega arith) xs h.no_slash;
}

lower_joined : (parts : List (List ℕ)) → map to_ascii_lowercase (join_with_byte dot parts) ≡ join_with_byte dot (map (map to_ascii_lowercase) parts)
lower_joined [] = refl
lower_joined (x ∷ []) = refl
lower_joined (x ∷ y ∷ xs) =
    map-append to_ascii_lowercase x (dot ∷ join_with_byte dot (y ∷ xs))
    ∙ ap (λ (rest : List ℕ). map to_ascii_lowercase x ++ dot ∷ rest) (lower_joined (y ∷ xs))

pub lower_authority : (xs : List ℕ) → IsAuthority xs → IsAuthority (map to_ascii_lowercase xs)
lower_authority xs h =
    let len = length-map h.0 (map to_ascii_lowercase) in (
      map (map to_ascii_lowercase) h.0,
      omega (arith, len, h.1),
      All-map IsSegment (map to_ascii_lowercase) h.0 (All-weaker IsSegment (λ ys. IsSegment (map to_ascii_lowercase ys)) lower_segment h.0 h.2),
      ap (map to_ascii_lowercase) h.3 ∙ lower_joined h.0,
    )

-- the local name, lowered or as it was
local_utf8 : (b : Bool) (xs : List ℕ) → IsUtf8 xs → IsUtf8 (cond b (map to_ascii_lowercase xs) xs)
local_utf8 true xs h = lowered xs h
local_utf8 false xs h = h

local_length : (b : Bool) (xs : List ℕ) → length (cond b (map to_ascii_lowercase xs) xs) ≡ length xs
local_length true xs = length-map xs to_ascii_lowercase
local_length false xs = refl

local_authority : (b : Bool) (xs : List ℕ) → b ≡ true → IsAuthority xs → IsAuthority (cond b (map to_ascii_lowercase xs) xs)
local_authority true xs e h = lower_authority xs h
local_authority false xs e h = h

slash_utf8 : IsUtf8 (slash ∷ [])
slash_utf8 = subst IsUtf8 (encode_ascii slash (omega arith)) (IsUtf8-encode slash refl)

pub canonical_utf8 : (s : List ℕ) → IsUtf8 s → position_or_len is_slash s < length s → IsUtf8 (canonical s)
canonical_utf8 s u lt =
    let here : get_or s (position_or_len is_slash s) 0 ≡ slash = eqb-true _ _ (passes_at_first is_slash s 0 lt) in
    let small : get_or s (position_or_len is_slash s) 0 < 128 = omega (arith, here) in
    let front = IsUtf8-take s (position_or_len is_slash s) u (IsCharBoundary-before_ascii s (position_or_len is_slash s) lt small) in
    let back = IsUtf8-drop s (position_or_len is_slash s + 1) u (IsCharBoundary-after_ascii s (position_or_len is_slash s) u lt small) in
    IsUtf8-append (authority s) (slash ∷ local s) (lowered (sent_authority s) front)
    (IsUtf8-append (slash ∷ []) (local s) slash_utf8 (local_utf8 (is_admin s) (sent_local s) back))

pub length-canonical : (s : List ℕ) → position_or_len is_slash s < length s → length (canonical s) ≡ length s
length-canonical s lt =
    let cut = ap length (cut_at_slash s lt) ∙ length-append (sent_authority s) (slash ∷ sent_local s) in
    let made = length-append (authority s) (slash ∷ local s) in
    let front = length-map (sent_authority s) to_ascii_lowercase in
    let back = local_length (is_admin s) (sent_local s) in
    omega (arith, cut, made, front, back)

pub canonical_is_handle : (s : List ℕ) → IsHandle s → IsHandle (canonical s)
canonical_is_handle s h =
    let lt = inside_of_handle s h in
    let same_admin : is_admin_authority (authority s) ≡ is_admin s = ap (λ (a : List ℕ). bytes_eq a (codes "0.na")) (lower_twice (sent_authority s)) in (
      authority s,
      local s,
      record {
        short = let len = length-canonical s lt in let short = h.2.short in omega (arith, len, short);
        utf8 = canonical_utf8 s h.2.utf8 lt;
        parts = refl;
        segments = (lower_authority (sent_authority s) (handle_authority s h), λ e. local_authority (is_admin s) (sent_local s) (sym same_admin ∙ e) (handle_local s h (sym same_admin ∙ e)));
      },
    )
