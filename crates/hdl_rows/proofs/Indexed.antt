-- Each value of a handle stands at its own index.
use Rattle.std.proofs.Common.{◌≡◌, ℕ, List, [], ◌∷◌, map, Bool, true, false, cond, ◌&&◌, T, Option, Some, None, ◌==◌, refl, sym, ap, ◌∙◌, subst, is_eq, unwrap_or}
use Rattle.std.specs.Cmp.{tied_itself}
use Rattle.std.specs.List.{AllByRecursion}
use Rattle.std.specs.Ordering.{ordering_reverse}
use Rattle.std.specs.FinMap as map
use Rattle.std.specs.FinMap.{find, is_sorted}
use Rattle.std.specs.FinMap.Entries.{below_all}
use Rattle.std.proofs.lemmas.Bool.{eqb-true}
use Rattle.hdl_value.specs.Place.{Place, place_cmp, same_handle}
use Rattle.hdl_value.specs.declared.value.Value.{Value}
use Rattle.hdl_value.proofs.Places.{place_total, place_antisymmetric, handles_equal}
use Rattle.hdl_rows.specs.Table.{Table, place, at, values_of, value_with, HaveTheirIndexes}
use Rattle.hdl_rows.proofs.Writes.{some_none}
use Rattle.hdl_rows.proofs.ShelfLemmas.{first, second, less}

abbrev Placed : Type 0
Placed = List (Place × Value)

-- ---- each entry of a map is found

later : (e : Place × Value) (es fs : Placed) → T (below_all place_cmp e.0 fs) → AllByRecursion (λ f. find place_cmp f.0 es ≡ Some f.1) fs → AllByRecursion (λ f. find place_cmp f.0 (e ∷ es) ≡ Some f.1) fs
later e es [] below all = tt
later e es (f ∷ fs) below all =
    let greater = place_total.antisymm f.0 e.0 ∙ ap ordering_reverse (less _ (first _ _ below)) in
    (ap (λ o. cond (is_eq o) (Some e.1) (find place_cmp f.0 es)) greater ∙ all.0, later e es fs (second _ _ below) all.1)

each_found : (es : Placed) → T (is_sorted place_cmp es) → AllByRecursion (λ e. find place_cmp e.0 es ≡ Some e.1) es
each_found [] sorted = tt
each_found (e ∷ es) sorted =
    (ap (λ o. cond (is_eq o) (Some e.1) (find place_cmp e.0 es)) (tied_itself place_total e.0), later e es es (first _ _ sorted) (each_found es (second _ _ sorted)))

-- ---- a value that was found by an index has it

found_index : (i : ℕ) (vs : List Value) (w : Value) → value_with i vs ≡ Some w → (w.index == i) ≡ true
found_index i [] w found = absurd (some_none w (sym found))
found_index i (v ∷ vs) w found = by_test (v.index == i) refl (found_index i vs w) found
  where
    by_test : (b : Bool) → (v.index == i) ≡ b → (value_with i vs ≡ Some w → (w.index == i) ≡ true) → cond b (Some v) (value_with i vs) ≡ Some w → (w.index == i) ≡ true
    by_test true is rest e = ap (λ (o : Option Value). (unwrap_or o w).index == i) (sym e) ∙ is
    by_test false is rest e = rest e

-- ---- the values of a handle

kept : (b : Bool) (o : Option Value) (v : Value) → cond b o None ≡ Some v → (b ≡ true) × (o ≡ Some v)
kept true o v e = (refl, e)
kept false o v e = absurd (some_none v (sym e))

abbrev StandsAtItsOwn : Table → List ℕ → Value → Type 0
StandsAtItsOwn t h v = at t (place h v.index) ≡ Some v

own : (t : Table) (h : List ℕ) (p : Place) (v : Value) → HaveTheirIndexes t h (values_of t h) → map.get (map.retain_keys t.values (λ p. same_handle p.handle h)) p ≡ Some v → StandsAtItsOwn t h v
own t h p v have got =
    let both = kept (same_handle p.handle h) (at t p) v (sym (map.get-retain_keys t.values (λ p. same_handle p.handle h) p (λ q e. ap (λ (r : Place). same_handle r.handle h) (sym (place_antisymmetric p q e)))) ∙ got) in
    let here : at t (place h p.index) ≡ Some v = ap (λ (g : List ℕ). at t (place g p.index)) (sym (handles_equal p.handle h both.0)) ∙ both.1 in
    let index : v.index ≡ p.index = eqb-true v.index p.index (found_index p.index (values_of t h) v (have p.index ∙ here)) in
    ap (λ i. at t (place h i)) index ∙ here

each_own : (t : Table) (h : List ℕ) (es : Placed) → HaveTheirIndexes t h (values_of t h) → AllByRecursion (λ e. map.get (map.retain_keys t.values (λ p. same_handle p.handle h)) e.0 ≡ Some e.1) es
    → AllByRecursion (StandsAtItsOwn t h) (map (λ e. e.1) es)
each_own t h [] have all = tt
each_own t h (e ∷ es) have all = (own t h e.0 e.1 have all.0, each_own t h es have all.1)

all_got : (m : map.FinMap place_cmp Value) (es : Placed) → AllByRecursion (λ e. find place_cmp e.0 (map.entries m) ≡ Some e.1) es → AllByRecursion (λ e. map.get m e.0 ≡ Some e.1) es
all_got m [] all = tt
all_got m (e ∷ es) all = (map.get-entries m e.0 ∙ all.0, all_got m es all.1)

pub stand_at_their_own : (t : Table) (h : List ℕ) → HaveTheirIndexes t h (values_of t h) → AllByRecursion (λ v. at t (place h v.index) ≡ Some v) (values_of t h)
stand_at_their_own t h have =
    let m = map.retain_keys t.values (λ p. same_handle p.handle h) in
    each_own t h (map.entries m) have (all_got m (map.entries m) (each_found (map.entries m) (map.entries_sorted m)))
