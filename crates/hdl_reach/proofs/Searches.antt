-- A search: what is seen is what can be reached.
use Rattle.std.proofs.Common.{◌≡◌, ℕ, zero, suc, ◌+◌, ◌-◌, ◌<◌, ◌≤◌, add-one, List, [], ◌∷◌, ◌++◌, take, length, length-append, append-nil, get_or, refl, sym, ap, subst, ◌∙◌, arith, IsTrue}
use Rattle.std.proofs.Common.{map as map_list}
use Rattle.std.specs.List.{AllByRecursion, IsDistinct}
use Rattle.std.proofs.lemmas.List.{length-map}
use Rattle.std.proofs.lemmas.Map.Made.{length-le_from_is_member}
use Rattle.std.proofs.lemmas.Grind.{common_steps}
use Rattle.hdl_value.specs.Place.{Place}
use Rattle.hdl_reach.specs.Reach.{is_among}
use Rattle.hdl_reach.specs.Seen.{Extends}
use Rattle.hdl_reach.specs.Search.{IsWalk, IsReached, IsClosed, IsSearched}
use Rattle.hdl_reach.proofs.Members.{same_laws, at_among, among_front, all_weaker, all_append, all_push}

-- ---- lists by index

pub take_whole : {X : Type 0} (xs : List X) → take (length xs) xs ≡ xs
take_whole xs = grind (arith, common_steps)

pub all_at : {X : Type 0} (P : X → Type 0) (xs : List X) (i : ℕ) (x : X) → AllByRecursion P xs → i < length xs → x ≡ get_or xs i x → P x
all_at P [] i x all low is = absurd (omega arith)
all_at P (y ∷ xs) zero x all low is = subst P (sym is) all.0
all_at P (y ∷ xs) (suc i) x all low is = all_at P xs i x all.1 (omega arith) is

front_more : {X : Type 0} (xs tail : List X) (i : ℕ) (x : X) → i < length xs → x ≡ get_or xs i x → take (suc i) (xs ++ tail) ≡ take i xs ++ x ∷ []
front_more [] tail i x low is = absurd (omega arith)
front_more (y ∷ xs) tail zero x low is = ap (λ z. z ∷ []) (sym is)
front_more (y ∷ xs) tail (suc i) x low is = ap (λ zs. y ∷ zs) (front_more xs tail i x (omega arith) is)

pub take_next : {X : Type 0} (xs : List X) (i : ℕ) (x : X) → i < length xs → x ≡ get_or xs i x → take (i + 1) xs ≡ take i xs ++ x ∷ []
take_next xs i x low is = rw add-one (rw append-nil at (front_more xs [] i x low is))

pub mapped_at : {X Y : Type 0} (f : X → Y) (xs : List X) (i : ℕ) (x : X) → i < length xs → x ≡ get_or xs i x → f x ≡ get_or (map_list f xs) i (f x)
mapped_at f [] i x low is = absurd (omega arith)
mapped_at f (y ∷ xs) zero x low is = ap f is
mapped_at f (y ∷ xs) (suc i) x low is = mapped_at f xs i x (omega arith) is

pub mapped_low : {X Y : Type 0} (f : X → Y) (xs : List X) (i : ℕ) → i < length xs → i < length (map_list f xs)
mapped_low f xs i low = subst (λ n. i < n) (sym (length-map xs f)) low

pub mapped_high : {X Y : Type 0} (f : X → Y) (xs : List X) (i : ℕ) → length xs ≤ i → length (map_list f xs) ≤ i
mapped_high f xs i high = subst (λ n. n ≤ i) (sym (length-map xs f)) high

-- ---- walks

-- a walk that begins in a closed set stays in it
walk_stays : (on : Place → List Place) (seen : List Place) → IsClosed on seen seen → (p : Place) (ps : List Place) (q : Place) → IsTrue (is_among p seen) → IsWalk on p ps q → IsTrue (is_among q seen)
walk_stays on seen closed p [] q here walk = subst (λ r. IsTrue (is_among r seen)) walk here
walk_stays on seen closed p (r ∷ ps) q here walk =
    let next = at_among _ (on p) r (at_among _ seen p closed here) walk.0 in walk_stays on seen closed r ps q next walk.1

pub reached_stays : (on : Place → List Place) (seen : List Place) (p q : Place) → IsClosed on seen seen → IsTrue (is_among p seen) → IsReached on p q → IsTrue (is_among q seen)
reached_stays on seen p q closed here reached = walk_stays on seen closed p reached.0 q here reached.1

walk_more : (on : Place → List Place) (p : Place) (ps : List Place) (m q : Place) → IsWalk on p ps m → IsTrue (is_among q (on m)) → IsReached on p q
walk_more on p [] m q walk more = (q ∷ [], (subst (λ r. IsTrue (is_among q (on r))) (sym walk) more, refl))
walk_more on p (r ∷ ps) m q walk more = let rest = walk_more on r ps m q walk.1 more in (r ∷ rest.0, (walk.0, rest.1))

-- a walk goes on to that to which its end leads on
pub reached_more : (on : Place → List Place) (p m q : Place) → IsReached on p m → IsTrue (is_among q (on m)) → IsReached on p q
reached_more on p m q reached more = walk_more on p reached.0 m q reached.1 more

-- ---- the loop

pub begins : (on : Place → List Place) (P : Place → Type 0) (starts seen : List Place) → ((p : Place) → IsTrue (is_among p starts) → P p) → Extends [] starts seen → IsSearched on P starts 0 seen
unfolding IsDistinct
begins on P starts seen holds ext = record {
  within = omega arith;
  reached = subst (AllByRecursion P) (sym ext.is) (all_weaker _ P holds ext.tail ext.from);
  closed = tt;
  begun = ext.all;
  distinct = ext.distinct tt;
}

-- one place more is passed
pub goes_on : (on : Place → List Place) (P : Place → Type 0) (starts seen more new : List Place) (next : ℕ) (here : Place) → ((q : Place) → P here → IsTrue (is_among q (on here)) → P q)
    → IsSearched on P starts next seen → next < length seen → here ≡ get_or seen next here → more ≡ on here → Extends seen more new → IsSearched on P starts (next + 1) new
goes_on on P starts seen more new next here holds h low is listed ext =
    let front : take (next + 1) new ≡ take next seen ++ here ∷ [] = rw (add-one, ext.is) (front_more seen ext.tail next here low is) in
    let there = all_at P seen next here h.reached low is in
    let stays = λ (q : Place) (old : IsTrue (is_among q seen)). subst (λ ps. IsTrue (is_among q ps)) (sym ext.is) (among_front seen ext.tail q old) in
    let old = all_weaker (λ p. AllByRecursion (λ q. IsTrue (is_among q seen)) (on p)) (λ p. AllByRecursion (λ q. IsTrue (is_among q new)) (on p)) (λ p all. all_weaker _ _ stays (on p) all) (take next seen) h.closed in
    record {
      within = omega (arith, ap length ext.is, length-append seen ext.tail);
      reached = subst (AllByRecursion P) (sym ext.is) (all_append P seen ext.tail h.reached (all_weaker _ P (λ q from. holds q there (subst (λ ps. IsTrue (is_among q ps)) listed from)) ext.tail ext.from));
      closed = subst (λ ps. IsClosed on ps new) (sym front) (all_push _ (take next seen) here old (subst (AllByRecursion (λ q. IsTrue (is_among q new))) listed ext.all));
      begun = all_weaker _ _ stays starts h.begun;
      distinct = ext.distinct h.distinct;
    }

all_passed : (on : Place → List Place) (P : Place → Type 0) (starts seen : List Place) (next : ℕ) → IsSearched on P starts next seen → length seen ≤ next → take next seen ≡ seen
all_passed on P starts seen next h done = let same : next ≡ length seen = let low = h.within in omega arith in ap (λ n. take n seen) same ∙ take_whole seen

-- at its end all that can be reached was seen
pub ends : (on : Place → List Place) (P : Place → Type 0) (starts seen : List Place) (next : ℕ) → IsSearched on P starts next seen → length seen ≤ next → IsClosed on seen seen
ends on P starts seen next h done = subst (λ ps. IsClosed on ps seen) (all_passed on P starts seen next h done) h.closed

-- it ends, since no more places are seen than there are with the property
pub falls : (on : Place → List Place) (P : Place → Type 0) (starts seen all : List Place) (next : ℕ) → ((q : Place) → P q → IsTrue (is_among q all))
    → IsSearched on P starts next seen → next < length seen → length all - (next + 1) < length all - next
falls on P starts seen all next inside h low =
    let bound = length-le_from_is_member same_laws seen all h.distinct (λ q there. inside q (at_among P seen q h.reached there)) in omega arith
