-- What is kept of a table stays the table's.
use Rattle.std.proofs.Common.{◌≡◌, ◌≢◌, ℕ, true, false, Vec, List, [], ◌∷◌, ◌-◌, ◌==◌, length, map, take, Option, None, Some, Result, Ok, Err, OnOk, OnErr, is_some, slice_get, unwrap_or, inl, inr, refl, sym, ap, ◌∙◌, subst, true≢false, Contains}
use Rattle.std.specs.declared.alloc.Global.{Global}
use Rattle.std.specs.List.{AllByRecursion, IsDistinct}
use Rattle.std.specs.FinMap as finite
use Rattle.std.specs.Map.{keys_of, lookup, lookup_entry, remove_entry}
use Rattle.hdl_value.specs.Place.{place_cmp}
use Rattle.hdl_value.specs.declared.value.Value.{Value}
use Rattle.hdl_rows.specs.Heads.{head}
use Rattle.hdl_rows.specs.Table.{Table, no_rows, place, has, at, values_of, values_in, value_with, with_new_handle, with_values, HaveTheirIndexes, IsPlaced}
use Rattle.hdl_rows.specs.Write.{Write, Create, Add, CanWrite, handle_of, after_write}
use Rattle.hdl_rows.proofs.Writes.{other_handles_stay_lem, some_none, stay_placed_lem}
use Rattle.lru.specs.LruCache.{lru_cache, promoted, put_entries}
use Rattle.lru.proofs.CallerLemmas.{Contains-lookup, Contains-lookup_entry, Contains-promoted, Contains-put_entries, Contains-take}
use Rattle.lru.proofs.Splits.{Contains-cons, Contains-head, Contains-nil, Contains-tail}
use Rattle.hdl_cachedrows.specs.declared.cached_handle.CachedHandle.{CachedHandle}
use Rattle.hdl_cachedrows.specs.declared.cached_handle.CachedHandle.TheVariants.{Values, Heads}
use Rattle.hdl_cachedrows.specs.Cost.{Entry}
use Rattle.hdl_cachedrows.specs.Cache.{IsFound, AreHeads, IsAbsent, IsKept, AreTrue, AgreeBut}
use Rattle.hdl_cachedrows.specs.Cached.{Cached}
use Rattle.hdl_cachedrows.proofs.Keys.{is_key, same_key, same, alike, Lru}

pub none_true : (t : Table) → AreTrue t []
none_true t e there = absurd (Contains-nil e there)

pub used_true : (t : Table) (h : List ℕ) (es : List Entry) → AreTrue t es → AreTrue t (promoted (is_key h) es)
used_true t h es all e there = all e (Contains-promoted (is_key h) es e there)

-- what is found is of the handle
pub found_true : (t : Table) (h : List ℕ) (es : List Entry) (k : CachedHandle) → AreTrue t es → Some k ≡ lookup (is_key h) es → IsKept t h k
found_true t h es k all is =
    let there = Contains-lookup (is_key h) es k (sym is) in
    subst (λ g. IsKept t g k) (sym (same h there.0.items there.2)) (all (there.0, k) there.1)

-- what is used last is of its handle
pub last_true : (t : Table) (h : List ℕ) (es : List Entry) (e : Entry) → AreTrue t es → Some e ≡ slice_get es 0 → e.0.items ≡ h → IsKept t h e.1
last_true t h [] e all is of = absurd (some_none e is)
last_true t h (x ∷ es) e all is of = subst (λ g. IsKept t g e.1) of (all e (subst (λ (o : Option Entry). Contains (x ∷ es) (unwrap_or o e)) (sym is) (Contains-head x es)))

pub put_true : (t : Table) (c : Lru) (key : Vec ℕ Global) (k : CachedHandle) → AreTrue t c.entries → IsKept t key.items k → AreTrue t (put_entries same_key c key k)
put_true t c key k all of e there = elim (Contains-put_entries same_key c key k e there) [
  | inl was ↦ all e was
  | inr new ↦
      let is : key.items ≡ e.0.items = elim new.1 [
        | inl first ↦ ap (λ (j : Vec ℕ Global). j.items) (sym first)
        | inr w ↦ same key.items e.0.items w.2
      ] in
      subst (λ (l : CachedHandle). IsKept t e.0.items l) (sym new.0) (subst (λ h. IsKept t h k) is of)
]

-- something was kept, or memory was refused
pub kept_true : {X E : Type 0} (r : Result X E) (t : Table) (old new : Lru) (key : Vec ℕ Global) (k : CachedHandle) (h : List ℕ)
    → OnOk r (new ≡ lru_cache (put_entries same_key old key k) old.cap) → OnErr r (new ≡ old) → key.items ≡ h → AreTrue t old.entries → IsKept t h k → AreTrue t new.entries
kept_true (Ok x) t old new key k h done undone is all of =
    subst (λ (c : Lru). AreTrue t c.entries) (sym done) (put_true t old key k all (subst (λ g. IsKept t g k) (sym is) of))
kept_true (Err e) t old new key k h done undone is all of = subst (λ (c : Lru). AreTrue t c.entries) (sym undone) all

-- a handle of which something is kept is there
pub kept_there : (t : Table) (h : List ℕ) (k : CachedHandle) → IsKept t h k → has t h ≡ true
kept_there t h (Values vs) is = is.there
kept_there t h (Heads vs) is = is.there

some_of : {X : Type 0} (o : Option X) → is_some o ≡ true → (x : X) × (Some x ≡ o)
some_of None h = absurd (true≢false (sym h))
some_of (Some x) h = (x, refl)

-- what is kept is there
pub has_true : (t : Table) (h : List ℕ) (es : List Entry) → AreTrue t es → is_some (lookup (is_key h) es) ≡ true → has t h ≡ true
has_true t h es all is = let some = some_of (lookup (is_key h) es) is in kept_there t h some.0 (found_true t h es some.0 all some.1)

-- an index at which there is no head is one at which there is no value
no_head : (i : ℕ) (vs : List Value) → value_with i (map head vs) ≡ None → value_with i vs ≡ None
no_head i [] none = refl
no_head i (v ∷ vs) none = (elim (v.index == i) as (λ b. (v.index == i) ≡ b → value_with i (v ∷ vs) ≡ None) [
  | true ↦ λ is. absurd (some_none (head v) (rw is at none))
  | false ↦ λ is. rw is (no_head i vs (rw is at none))
]) refl

pub absent_true : (t : Table) (h : List ℕ) (i : ℕ) (hs : List Value) → AreHeads t h hs → value_with i hs ≡ None → at t (place h i) ≡ None
absent_true t h i hs are none = sym (are.by_index i) ∙ no_head i (values_of t h) (ap (value_with i) (sym are.found) ∙ none)

-- a fact of the table behind, as callers see it
pub seen_at : (P : Table → List ℕ → Type 0) (s o : Cached) (g h : List ℕ) → s ≡ o → g ≡ h → P s.table g → P o.table h
seen_at P s o g h is same p = subst (λ (x : Cached). P x.table h) is (subst (P s.table) same p)

-- what the table told of a handle
pub told : (t u : Table) (h g : List ℕ) (o : Option (Vec Value Global)) (v : Vec Value Global) (vs : List Value)
    → o ≡ Some v → is_some o ≡ has t h → values_in o ≡ values_of t h → HaveTheirIndexes t h (values_in o) → u ≡ t → g ≡ h → vs ≡ v.items → IsFound u g vs
told t u h g o v vs some there found index same canon is =
    subst (λ (s : Table). IsFound s g vs) (sym same) (subst (λ f. IsFound t f vs) (sym canon) (subst (IsFound t h) (sym is) (record {
      there = sym there ∙ ap is_some some;
      found = ap values_in (sym some) ∙ found;
      by_index = subst (λ (p : Option (Vec Value Global)). HaveTheirIndexes t h (values_in p)) some index;
    })))

-- a fact of all keys is one of each entry's key
of_key : (P : Vec ℕ Global → Type 0) (es : List Entry) → AllByRecursion P (keys_of es) → (e : Entry) → Contains es e → P e.0
of_key P [] all e there = absurd (Contains-nil e there)
of_key P (f ∷ es) all e there = elim (Contains-cons f es e there) [
  | inl is ↦ subst (λ (g : Entry). P g.0) is all.0
  | inr later ↦ of_key P es all.1 e later
]

-- an entry that is left was there, and is of another handle
pub left : (h : List ℕ) (es : List Entry) → IsDistinct same_key (keys_of es) → (e : Entry) → Contains (remove_entry (is_key h) es) e → Contains es e × (e.0.items ≢ h)
unfolding IsDistinct
left h [] distinct e there = absurd (Contains-nil e there)
left h (f ∷ es) distinct e there = (elim (is_key h f.0) as (λ b. is_key h f.0 ≡ b → Contains (f ∷ es) e × (e.0.items ≢ h)) [
  | true ↦ λ is.
      let later : Contains es e = rw is at there in
      let apart : same_key f.0 e.0 ≡ false = of_key (λ k. same_key f.0 k ≡ false) es distinct.0 e later in
      (Contains-tail f es e later, λ here. true≢false (sym (alike f.0.items e.0.items (sym (same h f.0.items is) ∙ sym here)) ∙ apart))
  | false ↦ λ is. elim (Contains-cons f (remove_entry (is_key h) es) e (rw is at there)) [
    | inl first ↦ (subst (Contains (f ∷ es)) first (Contains-head f es), λ here. true≢false (sym (alike h f.0.items (sym (ap (λ (g : Entry). g.0.items) first ∙ here))) ∙ is))
    | inr later ↦ let on = left h es distinct.1 e later in (Contains-tail f es e on.0, on.1)
  ]
]) refl

-- what is kept of a handle is that of each table that answers as this one there
stays : (t u : Table) (h : List ℕ) (k : CachedHandle) → has u h ≡ has t h → ((i : ℕ) → at u (place h i) ≡ at t (place h i)) → values_of u h ≡ values_of t h → IsKept t h k → IsKept u h k
stays t u h (Values vs) there at_is of_is is = record { there = there ∙ is.there; found = is.found ∙ sym of_is; by_index = λ i. is.by_index i ∙ sym (at_is i) }
stays t u h (Heads vs) there at_is of_is is =
    record { there = there ∙ is.there; found = is.found ∙ ap (map head) (sym of_is); by_index = λ i. ap (value_with i) of_is ∙ is.by_index i ∙ sym (at_is i) }

pub forgotten_true : (t u : Table) (h : List ℕ) (es : List Entry) → IsDistinct same_key (keys_of es) → AreTrue t es → AgreeBut h t u → AreTrue u (remove_entry (is_key h) es)
forgotten_true t u h es distinct all agree e there =
    let was = left h es distinct e there in
    let on = agree e.0.items was.1 in
    stays t u e.0.items e.1 on.0 on.1 on.2 (all e was.0)

-- what was forgotten is of the handle
pub forgotten_was : (t : Table) (h : List ℕ) (es : List Entry) (e : Entry) → AreTrue t es → lookup_entry (is_key h) es ≡ Some e → (e.0.items ≡ h) × IsKept t h e.1
forgotten_was t h es e all is =
    let there = Contains-lookup_entry (is_key h) es e is in
    let name = sym (same h e.0.items there.1) in
    (name, subst (λ g. IsKept t g e.1) name (all e there.0))

-- values that are put leave what is answered at every other handle
pub puts_agree : (t : Table) (h : List ℕ) (vs : List Value) → AgreeBut h t (with_values t h vs)
puts_agree t h vs g other = other_handles_stay_lem t (Add h vs) g other

-- a write, done or refused, leaves what is answered at every other handle
pub agree : {X E : Type 0} (r : Result X E) (w : Write) (t u : Table) → OnOk r (u ≡ after_write t w) → OnErr r (u ≡ t) → AgreeBut (handle_of w) t u
agree (Ok x) w t u done undone g other =
    subst (λ (s : Table). (has s g ≡ has t g) × ((i : ℕ) → at s (place g i) ≡ at t (place g i)) × (values_of s g ≡ values_of t g)) (sym done) (other_handles_stay_lem t w g other)
agree (Err e) w t u done undone g other = (ap (λ (s : Table). has s g) undone, λ i. ap (λ (s : Table). at s (place g i)) undone, ap (λ (s : Table). values_of s g) undone)

-- the least recently used one goes
pub pop_true : (t : Table) (es : List Entry) → AreTrue t es → AreTrue t (take (length es - 1) es)
pop_true t es all e there = all e (Contains-take (length es - 1) es e there)

-- what is kept is of other handles than one that is created
pub created_true : (t : Table) (h : List ℕ) (vs : List Value) (es : List Entry) → AreTrue t es → has t h ≡ false → AreTrue (with_new_handle t h vs) es
created_true t h vs es all absent e there =
    let is = all e there in
    let other : e.0.items ≢ h = λ same. true≢false (sym (kept_there t e.0.items e.1 is) ∙ ap (has t) same ∙ absent) in
    let on = other_handles_stay_lem t (Create h vs) e.0.items other in
    stays t (with_new_handle t h vs) e.0.items e.1 on.0 on.1 on.2 is

-- ---- values are at handles

pub none_placed : (t : Table) → t ≡ no_rows → IsPlaced t
none_placed t none = subst IsPlaced (sym none) (λ p v some. absurd (some_none v (sym (sym (finite.get-empty place_cmp p) ∙ some))))

-- a write, done or refused, leaves each value at a handle
pub placed_after : {X E : Type 0} (r : Result X E) (w : Write) (t u : Table) → OnOk r (u ≡ after_write t w) → OnErr r (u ≡ t) → IsPlaced t → CanWrite t w → IsPlaced u
placed_after (Ok x) w t u done undone placed can = subst IsPlaced (sym done) (stay_placed_lem t w placed can)
placed_after (Err e) w t u done undone placed can = subst IsPlaced (sym undone) placed

-- of a handle that isn't there no value is
pub no_value : (t : Table) (h : List ℕ) → IsPlaced t → has t h ≡ false → IsAbsent t h
no_value t h placed absent = record { absent = absent; none = λ i. none_of i (at t (place h i)) refl }
  where
    none_of : (i : ℕ) (o : Option Value) → at t (place h i) ≡ o → at t (place h i) ≡ None
    none_of i None is = is
    none_of i (Some v) is = absurd (true≢false (sym (placed (place h i) v is) ∙ absent))
