-- Places that are seen grow by others, each once.
use Rattle.std.proofs.Common.{◌≡◌, ℕ, ◌+◌, ◌<◌, take, length, get_or, List, [], ◌∷◌, ◌++◌, append-nil, append_assoc, if◌then◌else◌, Bool, true, false, ◌||◌, refl, sym, ap, subst, ◌∙◌, IsTrue}
use Rattle.std.specs.List.{IsDistinct}
use Rattle.std.proofs.lemmas.List.{map-append}
use Rattle.hdl_value.specs.Place.{Place, same_place}
use Rattle.hdl_value.specs.Refs.{place_of}
use Rattle.hdl_value.specs.declared.admin.Reference.{Reference}
use Rattle.hdl_reach.specs.Reach.{is_among}
use Rattle.hdl_reach.specs.Seen.{places, with_place, Extends}
use Rattle.hdl_reach.proofs.Members.{same_laws, among_front, among_last, all_weaker, all_push}
use Rattle.hdl_reach.proofs.Searches.{take_next}

-- ---- what is seen grows

pub extends_none : (old : List Place) → Extends old [] old
extends_none old = record { tail = []; is = sym (append-nil old); from = tt; all = tt; distinct = λ d. d }

extends_skip : (old more now : List Place) (p : Place) → Extends old more now → IsTrue (is_among p now) → Extends old (more ++ p ∷ []) now
extends_skip old more now p h there = record {
  tail = h.tail;
  is = h.is;
  from = all_weaker _ _ (λ q. among_front more (p ∷ []) q) h.tail h.from;
  all = all_push (λ q. IsTrue (is_among q now)) more p h.all there;
  distinct = h.distinct;
}

distinct_push : (ps : List Place) (p : Place) → IsDistinct same_place ps → is_among p ps ≡ false → IsDistinct same_place (ps ++ p ∷ [])
unfolding IsDistinct
distinct_push [] p d new = (tt, tt)
distinct_push (q ∷ ps) p d new =
    let both = neither (same_place p q) (is_among p ps) new in (all_push (λ y. same_place q y ≡ false) ps p d.0 (same_laws.symm q p ∙ both.0), distinct_push ps p d.1 both.1)
  where
    neither : (a b : Bool) → (a || b) ≡ false → (a ≡ false) × (b ≡ false)
    neither true b h = absurd cc
    neither false b h = (refl, h)

extends_push : (old more now : List Place) (p : Place) → Extends old more now → is_among p now ≡ false → Extends old (more ++ p ∷ []) (now ++ p ∷ [])
extends_push old more now p h new = record {
  tail = h.tail ++ p ∷ [];
  is = ap (λ ps. ps ++ p ∷ []) h.is ∙ append_assoc old h.tail (p ∷ []);
  from = all_push _ h.tail p (all_weaker _ _ (λ q. among_front more (p ∷ []) q) h.tail h.from) (among_last more p);
  all = all_push (λ q. IsTrue (is_among q (now ++ p ∷ []))) more p (all_weaker _ _ (λ q. among_front now (p ∷ []) q) more h.all) (among_last now p);
  distinct = λ d. distinct_push now p (h.distinct d) new;
}

-- one more of those that come
pub extends_with : (old more now next : List Place) (p : Place) → Extends old more now → next ≡ with_place now p → Extends old (more ++ p ∷ []) next
extends_with old more now next p h is = subst (Extends old (more ++ p ∷ [])) (sym is) (elim (is_among p now) as (λ b. is_among p now ≡ b → Extends old (more ++ p ∷ []) (if b then now else now ++ p ∷ [])) [
  | true ↦ λ there. extends_skip old more now p h there
  | false ↦ λ new. extends_push old more now p h new
] refl)

-- ---- places of references

pub places_more : (rs : List Reference) (one : Reference) → places (rs ++ one ∷ []) ≡ places rs ++ place_of one ∷ []
places_more rs one = map-append place_of rs (one ∷ [])

-- places of references, one more
pub places_next : (rs : List Reference) (i : ℕ) (r : Reference) → i < length rs → r ≡ get_or rs i r → places (take (i + 1) rs) ≡ places (take i rs) ++ place_of r ∷ []
places_next rs i r low is = ap places (take_next rs i r low is) ∙ places_more (take i rs) r
