-- Values in order: what a put and a removal make of them.
use Rattle.std.proofs.Common.{◌≡◌, ◌≢◌, ℕ, zero, suc, T, IsTrue, Some, None, is_eq, ◌+◌, ◌<◌, ◌≤◌, List, [], ◌∷◌, ◌++◌, length, get_or, set, insert, Bool, true, false, cond, ltb, refl, sym, ap, ◌∙◌, Less, Equal, Greater, arith}
use Rattle.std.specs.Ordering.{nat_cmp}
use Rattle.std.specs.List.{prefix_len}
use Rattle.std.specs.Cmp.{nat_cmp_total}
use Rattle.std.specs.List.Sorted.{IsNonDecreasingBy, IsPartitionedBy, IsPartitionPoint}
use Rattle.std.specs.FinMap.{put, find, is_sorted}
use Rattle.std.specs.FinMap.Entries.{by_order, below_all}
use Rattle.std.proofs.lemmas.Bool.Decides.{nat_tests}
use Rattle.std.proofs.lemmas.List.{get_or_default}
use Rattle.std.proofs.lemmas.List.Sums.{prefix_len-le-length, prefix_len_is}
use Rattle.std.proofs.lemmas.List.Sorted.{IsPartitionedBy-ltb}
use Rattle.hdl_value.specs.declared.value.Value.{Value}
use Rattle.hdl_rows.specs.RowStore.{by_index, put_all}
use Rattle.hdl_rows.proofs.ShelfLemmas.{to_T, first, second, less}

above : (i j : ℕ) → ltb j i ≡ true → nat_cmp i j ≡ Greater
above i j lt = grind (arith, nat_tests)

below : (i j : ℕ) → ltb j i ≡ false → j ≢ i → nat_cmp i j ≡ Less
below i j past other = grind (arith, nat_tests)

tie : (i j : ℕ) → j ≡ i → nat_cmp i j ≡ Equal
tie i j same = grind (arith, nat_tests)

not_below : (i j : ℕ) → ltb j i ≡ true → j ≢ i
not_below i j lt same = absurd (grind (arith, nat_tests))

one_more : (n : ℕ) → 1 + n ≡ suc n
one_more n = omega arith

abbrev pub place_in : List Value → ℕ → ℕ
place_in vs i = prefix_len (λ w. ltb w.index i) vs

later_insert : (w v : Value) (ws : List Value) (n : ℕ) → by_index (insert (w ∷ ws) (1 + n) v) ≡ (w.index, w) ∷ by_index (insert ws n v)
later_insert w v ws n = rw (one_more n) refl

later_set : (w v : Value) (ws : List Value) (n : ℕ) → by_index (set (w ∷ ws) (1 + n) v) ≡ (w.index, w) ∷ by_index (set ws n v)
later_set w v ws n = rw (one_more n) refl

-- no value at place n has the index
abbrev IsOther : List Value → ℕ → Value → Type 0
IsOther vs n v = n < length vs → (get_or vs n v).index ≢ v.index

later_other : (w v : Value) (ws : List Value) (n : ℕ) → IsOther (w ∷ ws) (1 + n) v → IsOther ws n v
later_other w v ws n other lt =
    let after = rw (one_more n) at other in
    after (omega arith)

abbrev Same : List Value → ℕ → Value → Type 0
Same vs n v = (n < length vs) × ((get_or vs n v).index ≡ v.index)

later_same : (w v : Value) (ws : List Value) (n : ℕ) → Same (w ∷ ws) (1 + n) v → Same ws n v
later_same w v ws n same =
    let after = rw (one_more n) at same in
    (omega (arith, after.0), after.1)

-- where no value has the index
new_place : (vs : List Value) (v : Value) → IsOther vs (place_in vs v.index) v → by_index (insert vs (place_in vs v.index) v) ≡ put nat_cmp v.index v (by_index vs)
new_place [] v other = refl
new_place (w ∷ ws) v other = by_test (ltb w.index v.index) refl (λ o. new_place ws v o) other
  where
    by_test : (b : Bool) → ltb w.index v.index ≡ b → (IsOther ws (place_in ws v.index) v → by_index (insert ws (place_in ws v.index) v) ≡ put nat_cmp v.index v (by_index ws))
        → IsOther (w ∷ ws) (cond b (1 + place_in ws v.index) 0) v → by_index (insert (w ∷ ws) (cond b (1 + place_in ws v.index) 0) v) ≡ put nat_cmp v.index v (by_index (w ∷ ws))
    by_test true lt after other =
        later_insert w v ws (place_in ws v.index) ∙ ap (λ (t : List (ℕ × Value)). (w.index, w) ∷ t) (after (later_other w v ws (place_in ws v.index) other))
        ∙ sym (ap (λ r. by_order r ((v.index, v) ∷ by_index (w ∷ ws)) ((w.index, v) ∷ by_index ws) ((w.index, w) ∷ put nat_cmp v.index v (by_index ws))) (above v.index w.index lt))
    by_test false past after other =
        sym (ap (λ r. by_order r ((v.index, v) ∷ by_index (w ∷ ws)) ((w.index, v) ∷ by_index ws) ((w.index, w) ∷ put nat_cmp v.index v (by_index ws))) (below v.index w.index past (other (omega arith))))

-- where a value has it
same_place : (vs : List Value) (v : Value) → Same vs (place_in vs v.index) v → by_index (set vs (place_in vs v.index) v) ≡ put nat_cmp v.index v (by_index vs)
same_place [] v same = absurd (omega (arith, same.0))
same_place (w ∷ ws) v same = by_test (ltb w.index v.index) refl (λ s. same_place ws v s) same
  where
    by_test : (b : Bool) → ltb w.index v.index ≡ b → (Same ws (place_in ws v.index) v → by_index (set ws (place_in ws v.index) v) ≡ put nat_cmp v.index v (by_index ws))
        → Same (w ∷ ws) (cond b (1 + place_in ws v.index) 0) v → by_index (set (w ∷ ws) (cond b (1 + place_in ws v.index) 0) v) ≡ put nat_cmp v.index v (by_index (w ∷ ws))
    by_test true lt after same =
        later_set w v ws (place_in ws v.index) ∙ ap (λ (t : List (ℕ × Value)). (w.index, w) ∷ t) (after (later_same w v ws (place_in ws v.index) same))
        ∙ sym (ap (λ r. by_order r ((v.index, v) ∷ by_index (w ∷ ws)) ((w.index, v) ∷ by_index ws) ((w.index, w) ∷ put nat_cmp v.index v (by_index ws))) (above v.index w.index lt))
    by_test false past after same =
        ap (λ (n : ℕ). (n, v) ∷ by_index ws) (sym same.1)
        ∙ sym (ap (λ r. by_order r ((v.index, v) ∷ by_index (w ∷ ws)) ((w.index, v) ∷ by_index ws) ((w.index, w) ∷ put nat_cmp v.index v (by_index ws))) (tie v.index w.index same.1))

-- the same, at a number that a call gave
pub put_new : (vs new : List Value) (n : ℕ) (v d : Value) → n ≡ place_in vs v.index → (n < length vs → (get_or vs n d).index ≢ v.index) → new ≡ insert vs n v → by_index new ≡ put nat_cmp v.index v (by_index vs)
put_new vs new n v d at other is =
    let found : IsOther vs n v = λ lt same. other lt (ap (λ (w : Value). w.index) (get_or_default vs n d v lt) ∙ same) in
    let there : IsOther vs (place_in vs v.index) v = rw at at found in
    rw (is, at) (new_place vs v there)

pub put_over : (vs new : List Value) (n : ℕ) (v d : Value) → n ≡ place_in vs v.index → n < length vs → (get_or vs n d).index ≡ v.index → new ≡ set vs n v → by_index new ≡ put nat_cmp v.index v (by_index vs)
put_over vs new n v d at lt same is =
    let found : Same vs n v = (lt, ap (λ (w : Value). w.index) (sym (get_or_default vs n d v lt)) ∙ same) in
    let there : Same vs (place_in vs v.index) v = rw at at found in
    rw (is, at) (same_place vs v there)

-- one more value is put
pub put_all-push : (es : List (ℕ × Value)) (vs : List Value) (v : Value) → put_all es (vs ++ v ∷ []) ≡ put nat_cmp v.index v (put_all es vs)
put_all-push es [] v = refl
put_all-push es (w ∷ ws) v = put_all-push (put nat_cmp w.index w es) ws v

-- the place that was counted in a slice of the vector
pub place_of_count : (slice vs : List Value) (n i : ℕ) → slice ≡ vs → n ≡ place_in slice i → (n ≡ place_in vs i) × (n ≤ length vs)
place_of_count slice vs n i same count =
    let at : n ≡ place_in vs i = count ∙ ap (λ (xs : List Value). place_in xs i) same in
    (at, omega (arith, at, prefix_len-le-length (λ (w : Value). ltb w.index i) vs))

-- ---- where a search for an index ends, and which value stands there

abbrev Rise : List Value → Type 0
Rise vs = IsTrue (is_sorted nat_cmp (by_index vs))

under_is_less : (i j : ℕ) → nat_cmp i j ≡ Less → i < j
under_is_less i j e = grind (arith, nat_tests)

under_value : (i : ℕ) (vs : List Value) (k : ℕ) (d : Value) → T (below_all nat_cmp i (by_index vs)) → k < length vs → i < (get_or vs k d).index
under_value i [] k d all lt = absurd (omega arith)
under_value i (w ∷ ws) zero d all lt = under_is_less i w.index (less _ (first _ _ all))
under_value i (w ∷ ws) (suc k) d all lt = under_value i ws k d (second _ _ all) (omega arith)

indexes_rise : (vs : List Value) → T (is_sorted nat_cmp (by_index vs)) → IsNonDecreasingBy (λ v. v.index) vs
indexes_rise [] order i j d le lt = absurd (omega arith)
indexes_rise (w ∷ ws) order zero zero d le lt = omega arith
indexes_rise (w ∷ ws) order (suc i) zero d le lt = absurd (omega arith)
indexes_rise (w ∷ ws) order zero (suc j) d le lt = omega (arith, under_value w.index ws j d (first _ _ order) (omega arith))
indexes_rise (w ∷ ws) order (suc i) (suc j) d le lt = indexes_rise ws (second _ _ order) i j d (omega arith) (omega arith)

pub values_parted : (vs : List Value) (i : ℕ) → Rise vs → IsPartitionedBy (λ v. ltb v.index i) vs
values_parted vs i order = IsPartitionedBy-ltb (λ (v : Value). v.index) vs i (indexes_rise vs (to_T _ order))

pub values_counted : (vs : List Value) (i n : ℕ) → n ≤ length vs → IsPartitionPoint (λ v. ltb v.index i ≡ true) (λ v. ltb v.index i ≡ false) vs n → n ≡ place_in vs i
values_counted [] i n bound point = omega arith
values_counted (w ∷ ws) i n bound point = sym (prefix_len_is (λ (v : Value). ltb v.index i) (w ∷ ws) n w bound (λ k lt. point.0 k w (omega arith) lt) (λ lt. point.1 n w (omega arith) lt))

none_under : (i j : ℕ) (vs : List Value) → nat_cmp i j ≡ Less → T (below_all nat_cmp j (by_index vs)) → find nat_cmp i (by_index vs) ≡ None
none_under i j [] e all = refl
none_under i j (w ∷ ws) e all = ap (λ o. cond (is_eq o) (Some w) (find nat_cmp i (by_index ws))) (nat_cmp_total.trans i j w.index e (less _ (first _ _ all))) ∙ none_under i j ws e (second _ _ all)

found_here : (vs : List Value) (i : ℕ) (d : Value) → place_in vs i < length vs → (get_or vs (place_in vs i) d).index ≡ i → find nat_cmp i (by_index vs) ≡ Some (get_or vs (place_in vs i) d)
found_here [] i d inside same = absurd (omega arith)
found_here (w ∷ ws) i d inside same = by_test (ltb w.index i) refl (found_here ws i d) inside same
  where
    by_test : (b : Bool) → ltb w.index i ≡ b → (place_in ws i < length ws → (get_or ws (place_in ws i) d).index ≡ i → find nat_cmp i (by_index ws) ≡ Some (get_or ws (place_in ws i) d))
        → cond b (1 + place_in ws i) 0 < length (w ∷ ws) → (get_or (w ∷ ws) (cond b (1 + place_in ws i) 0) d).index ≡ i → find nat_cmp i (by_index (w ∷ ws)) ≡ Some (get_or (w ∷ ws) (cond b (1 + place_in ws i) 0) d)
    by_test true lt rest inside same =
        let on = one_more (place_in ws i) in
        ap (λ o. cond (is_eq o) (Some w) (find nat_cmp i (by_index ws))) (above i w.index lt)
        ∙ rest (omega arith) (ap (λ (n : ℕ). (get_or (w ∷ ws) n d).index) (sym on) ∙ same) ∙ ap (λ (n : ℕ). Some (get_or (w ∷ ws) n d)) (sym on)
    by_test false past rest inside same = ap (λ o. cond (is_eq o) (Some w) (find nat_cmp i (by_index ws))) (tie i w.index same)

none_here : (vs : List Value) (i : ℕ) → T (is_sorted nat_cmp (by_index vs)) → ((d : Value) → place_in vs i < length vs → (get_or vs (place_in vs i) d).index ≢ i) → find nat_cmp i (by_index vs) ≡ None
none_here [] i order other = refl
none_here (w ∷ ws) i order other = by_test (ltb w.index i) refl (none_here ws i (second _ _ order)) other
  where
    by_test : (b : Bool) → ltb w.index i ≡ b → (((d : Value) → place_in ws i < length ws → (get_or ws (place_in ws i) d).index ≢ i) → find nat_cmp i (by_index ws) ≡ None)
        → ((d : Value) → cond b (1 + place_in ws i) 0 < length (w ∷ ws) → (get_or (w ∷ ws) (cond b (1 + place_in ws i) 0) d).index ≢ i) → find nat_cmp i (by_index (w ∷ ws)) ≡ None
    by_test true lt rest other =
        let on = one_more (place_in ws i) in
        ap (λ o. cond (is_eq o) (Some w) (find nat_cmp i (by_index ws))) (above i w.index lt)
        ∙ rest (λ d inside same. other d (omega arith) (ap (λ (n : ℕ). (get_or (w ∷ ws) n d).index) on ∙ same))
    by_test false past rest other =
        let under = below i w.index past (other w (omega arith)) in
        ap (λ o. cond (is_eq o) (Some w) (find nat_cmp i (by_index ws))) under ∙ none_under i w.index ws under (first _ _ order)

-- the same, at a number that a call gave
pub value_found : (vs : List Value) (i n : ℕ) (d : Value) → n ≡ place_in vs i → n < length vs → d ≡ get_or vs n d → d.index ≡ i → Some d ≡ find nat_cmp i (by_index vs)
value_found vs i n d at inside is same =
    let there : d ≡ get_or vs (place_in vs i) d = is ∙ ap (λ (k : ℕ). get_or vs k d) at in
    ap Some there ∙ sym (found_here vs i d (omega arith) (ap (λ (v : Value). v.index) (sym there) ∙ same))

pub value_missing : (vs : List Value) (i n : ℕ) → Rise vs → n ≡ place_in vs i → ((d : Value) → n < length vs → (get_or vs n d).index ≢ i) → None ≡ find nat_cmp i (by_index vs)
value_missing vs i n order at other = sym (none_here vs i (to_T _ order) (λ d inside same. other d (omega arith) (ap (λ (k : ℕ). (get_or vs k d).index) at ∙ same)))
