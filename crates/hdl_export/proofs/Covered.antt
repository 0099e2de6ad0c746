-- What values refer to is covered by more and more places.
use Rattle.std.proofs.Common.{◌≡◌, ◌⊎◌, Bool, true, false, ◌||◌, true≢false, inl, inr, refl, ℕ, ◌+◌, ◌<◌, ◌≤◌, length, take, get_or, map, List, [], ◌∷◌, ◌++◌, sym, ap, subst, ◌∙◌, arith, IsTrue}
use Rattle.std.specs.List.{AllByRecursion, IsDistinct}
use Rattle.std.proofs.lemmas.List.{map-append}
use Rattle.hdl_value.specs.Place.{Place, same_place}
use Rattle.hdl_value.specs.Refs.{refs_of}
use Rattle.hdl_value.specs.declared.admin.Reference.{Reference}
use Rattle.hdl_value.specs.declared.value.Value.{Value}
use Rattle.hdl_rows.specs.Table.{Table}
use Rattle.hdl_tenants.specs.Register.{Row}
use Rattle.hdl_reach.specs.Reach.{is_among, lists}
use Rattle.hdl_reach.specs.Laws.{IsOnward}
use Rattle.hdl_reach.specs.Seen.{places, Extends}
use Rattle.hdl_reach.specs.Search.{IsSearched}
use Rattle.hdl_reach.proofs.Members.{at_among, among_append, among_front, among_first, or_true, all_weaker}
use Rattle.hdl_reach.proofs.Searches.{ends, take_next}
use Rattle.hdl_laws.specs.Isolation.{Covers, EachCovered}
use Rattle.hdl_export.specs.Covers.{AreReferred, IsLed}

-- each of places that are covered is among those that cover them
each_of : (ps qs : List Place) → Covers qs ps → AllByRecursion (λ p. IsTrue (is_among p qs)) ps
each_of [] qs f = tt
each_of (p ∷ ps) qs f = (f p (among_first p ps), each_of ps qs (λ q h. f q (or_true (same_place q p) (is_among q ps) h)))

-- and the other way round
pub covers_each : (ps qs : List Place) → AllByRecursion (λ p. IsTrue (is_among p qs)) ps → Covers qs ps
covers_each ps qs all p here = at_among (λ q. IsTrue (is_among q qs)) ps p all here

covers_old : (old more new : List Place) → Extends old more new → Covers new old
covers_old old more new ext p here = subst (λ ps. IsTrue (is_among p ps)) (sym ext.is) (among_front old ext.tail p here)

pub none_distinct : (rs : List Reference) → rs ≡ [] → IsDistinct same_place (places rs)
unfolding IsDistinct
none_distinct rs none = subst (λ (xs : List Reference). IsDistinct same_place (places xs)) (sym none) tt

-- ---- the places that values refer to

pub covered_by_more : (C D : List Place) (vs : List Value) → Covers D C → EachCovered C vs → EachCovered D vs
covered_by_more C D [] wider h = tt
covered_by_more C D (v ∷ vs) wider h = ((λ p here. wider p (h.0 p here)), covered_by_more C D vs wider h.1)

covered_push : (C : List Place) (vs : List Value) (v : Value) → EachCovered C vs → Covers C (refs_of v) → EachCovered C (vs ++ v ∷ [])
covered_push C [] v h k = (k, tt)
covered_push C (x ∷ vs) v h k = (h.0, covered_push C vs v h.1 k)

values_next : (rows : List Row) (i : ℕ) (row : Row) → i < length rows → row ≡ get_or rows i row → map (λ (r : Row). r.1) (take (i + 1) rows) ≡ map (λ (r : Row). r.1) (take i rows) ++ row.1 ∷ []
values_next rows i row low is = ap (map (λ (r : Row). r.1)) (take_next rows i row low is) ∙ map-append {A = Row} {B = Value} (λ r. r.1) (take i rows) (row ∷ [])

-- one row more is covered, once the places that its value refers to were added
pub covered_next : (rows : List Row) (i : ℕ) (row : Row) (old more new : List Place) → i < length rows → row ≡ get_or rows i row → more ≡ refs_of row.1 → Extends old more new
    → EachCovered old (map (λ (r : Row). r.1) (take i rows)) → EachCovered new (map (λ (r : Row). r.1) (take (i + 1) rows))
covered_next rows i row old more new low is refs ext h =
    let vs = map (λ (r : Row). r.1) (take i rows) in
    subst (EachCovered new) (sym (values_next rows i row low is))
    (covered_push new vs row.1 (covered_by_more old new vs (covers_old old more new ext) h) (subst (Covers new) refs (covers_each more new ext.all)))

-- ---- and no other place

either_true : (a b : Bool) → (a || b) ≡ true → (a ≡ true) ⊎ (b ≡ true)
either_true true b h = inl refl
either_true false b h = inr h

-- what holds the places that were there, and those that were to be added, holds all
covers_new : (old more new other : List Place) → Extends old more new → Covers other old → Covers other more → Covers other new
covers_new old more new other ext olds mores p here =
    let both = sym (among_append old ext.tail p) ∙ subst (λ ps. IsTrue (is_among p ps)) ext.is here in
    elim (either_true (is_among p old) (is_among p ext.tail) both) [
      | inl before ↦ olds p before
      | inr behind ↦ mores p (at_among (λ q. IsTrue (is_among q more)) ext.tail p ext.from behind)
    ]

covered_parts : (C : List Place) (vs : List Value) (v : Value) → EachCovered C (vs ++ v ∷ []) → EachCovered C vs × Covers C (refs_of v)
covered_parts C [] v h = (tt, h.0)
covered_parts C (x ∷ vs) v h = let rest = covered_parts C vs v h.1 in ((h.0, rest.0), rest.1)

pub none_referred : (rs : List Reference) (vs : List Value) → rs ≡ [] → AreReferred vs (places rs)
none_referred rs vs none = λ other each p here. absurd (true≢false (sym (subst (λ (xs : List Reference). IsTrue (is_among p (places xs))) none here)))

-- one row more refers to what was added for it
pub referred_next : (rows : List Row) (i : ℕ) (row : Row) (old more new : List Place) → i < length rows → row ≡ get_or rows i row → more ≡ refs_of row.1 → Extends old more new
    → AreReferred (map (λ (r : Row). r.1) (take i rows)) old → AreReferred (map (λ (r : Row). r.1) (take (i + 1) rows)) new
referred_next rows i row old more new low is refs ext h = λ other each.
    let parts = covered_parts other (map (λ (r : Row). r.1) (take i rows)) row.1 (subst (EachCovered other) (values_next rows i row low is) each) in
    covers_new old more new other ext (h other parts.0) (subst (Covers other) (sym refs) parts.1)

-- ---- the search

pub starts_at : (t : Table) (ps : List Place) → IsDistinct same_place ps → IsSearched (lists t) (IsLed t ps) ps 0 ps
starts_at t ps distinct =
    let all = each_of ps ps (λ p here. here) in
    record {
      within = omega arith;
      reached = all_weaker (λ p. IsTrue (is_among p ps)) (IsLed t ps) (λ p here other wider onward. wider p here) ps all;
      closed = tt;
      begun = all;
      distinct = distinct;
    }

pub onward_at : (t : Table) (starts seen : List Place) (next : ℕ) → IsSearched (lists t) (IsLed t starts) starts next seen → length seen ≤ next → IsOnward t seen
onward_at t starts seen next h done = λ r p here listed.
    let closed = ends (lists t) (IsLed t starts) starts seen next h done in
    at_among (λ q. IsTrue (is_among q seen)) (lists t r) p (at_among (λ s. AllByRecursion (λ q. IsTrue (is_among q seen)) (lists t s)) seen r closed here) listed
