-- What is kept of a handle stays the table's when values are put into both.
use Rattle.std.proofs.Common.{◌≡◌, ℕ, List, [], ◌∷◌, map, Bool, true, false, cond, Option, Some, None, ◌==◌, is_some, is_eq, Ordering, Less, Equal, Greater, IsTrue, refl, sym, ap, ◌∙◌, subst}
use Rattle.std.specs.List.{AllByRecursion}
use Rattle.std.specs.Ordering.{nat_cmp}
use Rattle.std.specs.FinMap.{find, put, is_sorted, nat_cmp-IsAntisymmetric}
use Rattle.std.specs.FinMap.Entries.{by_order}
use Rattle.std.proofs.lemmas.Bool.{eqb-true}
use Rattle.hdl_value.specs.declared.value.Value.{Value}
use Rattle.hdl_value.proofs.Places.{handle_itself}
use Rattle.hdl_rows.specs.Heads.{head}
use Rattle.hdl_rows.specs.RowStore.{by_index, put_all, table_of, AreInOrder}
use Rattle.hdl_rows.specs.Table.{Table, place, at, values_of, value_with, with_new_handle, with_values, HaveTheirIndexes}
use Rattle.hdl_rows.specs.Write.{Add}
use Rattle.hdl_rows.proofs.Indexed.{stand_at_their_own}
use Rattle.hdl_rows.proofs.ShelfLemmas.{index_test, within, at-table, values_of-table, values_put, values_there}
use Rattle.hdl_rows.proofs.Writes.{put_at, at-after_write, created_is_there_lem, same_values}
use Rattle.hdl_cachedrows.specs.Cache.{IsFound, AreHeads, IsAbsent}

abbrev Rise : List Value → Type 0
Rise vs = IsTrue (is_sorted nat_cmp (by_index vs))

-- ---- a table of one handle

abbrev one : List ℕ → List Value → List (List ℕ × List Value)
one h vs = (h, vs) ∷ []

in_order : (h : List ℕ) (vs : List Value) → Rise vs → AreInOrder (one h vs)
in_order h vs rise = record { handles = refl; values = (rise, tt) }

at_one : (h : List ℕ) (vs : List Value) (i : ℕ) → Rise vs → at (table_of (one h vs)) (place h i) ≡ find nat_cmp i (by_index vs)
at_one h vs i rise = at-table (one h vs) (in_order h vs rise).handles (place h i) ∙ ap (λ b. within (cond b (Some vs) None) i) (handle_itself h)

of_one : (h : List ℕ) (vs : List Value) → Rise vs → values_of (table_of (one h vs)) h ≡ vs
of_one h vs rise = values_of-table (one h vs) h (in_order h vs rise) ∙ ap (λ b. values_there (cond b (Some vs) None)) (handle_itself h)

-- values that rise, and are those of a handle by their indexes, are its values
values_are : (t : Table) (h : List ℕ) (vs : List Value) → Rise vs → ((i : ℕ) → at t (place h i) ≡ find nat_cmp i (by_index vs)) → values_of t h ≡ vs
values_are t h vs rise each = same_values t (table_of (one h vs)) h (λ i. each i ∙ sym (at_one h vs i rise)) ∙ of_one h vs rise

-- ---- values put one by one

abbrev put_one : Value → List Value → List Value
put_one v [] = v ∷ []
put_one v (w ∷ ws) = by_order (nat_cmp v.index w.index) (v ∷ w ∷ ws) (v ∷ ws) (w ∷ put_one v ws)

abbrev put_each : List Value → List Value → List Value
put_each ws [] = ws
put_each ws (v ∷ vs) = put_each (put_one v ws) vs

one_put : (v : Value) (ws : List Value) → by_index (put_one v ws) ≡ put nat_cmp v.index v (by_index ws)
one_put v [] = refl
one_put v (w ∷ ws) = by_case (nat_cmp v.index w.index) refl (one_put v ws)
  where
    by_case : (o : Ordering) → nat_cmp v.index w.index ≡ o → by_index (put_one v ws) ≡ put nat_cmp v.index v (by_index ws)
        → by_index (by_order o (v ∷ w ∷ ws) (v ∷ ws) (w ∷ put_one v ws))
        ≡ by_order o ((v.index, v) ∷ by_index (w ∷ ws)) ((w.index, v) ∷ by_index ws) ((w.index, w) ∷ put nat_cmp v.index v (by_index ws))
    by_case Less is rest = refl
    by_case Equal is rest = ap (λ (n : ℕ). (n, v) ∷ by_index ws) (nat_cmp-IsAntisymmetric v.index w.index is)
    by_case Greater is rest = ap (λ (es : List (ℕ × Value)). (w.index, w) ∷ es) rest

each_put : (ws vs : List Value) → by_index (put_each ws vs) ≡ put_all (by_index ws) vs
each_put ws [] = refl
each_put ws (v ∷ vs) = each_put (put_one v ws) vs ∙ ap (λ (es : List (ℕ × Value)). put_all es vs) (one_put v ws)

head_put : (v : Value) (ws : List Value) → map head (put_one v ws) ≡ put_one (head v) (map head ws)
head_put v [] = refl
head_put v (w ∷ ws) = by_case (nat_cmp v.index w.index) (head_put v ws)
  where
    by_case : (o : Ordering) → map head (put_one v ws) ≡ put_one (head v) (map head ws)
        → map head (by_order o (v ∷ w ∷ ws) (v ∷ ws) (w ∷ put_one v ws)) ≡ by_order o (head v ∷ head w ∷ map head ws) (head v ∷ map head ws) (head w ∷ put_one (head v) (map head ws))
    by_case Less rest = refl
    by_case Equal rest = refl
    by_case Greater rest = ap (λ (hs : List Value). head w ∷ hs) rest

heads_put : (ws vs : List Value) → map head (put_each ws vs) ≡ put_each (map head ws) (map head vs)
heads_put ws [] = refl
heads_put ws (v ∷ vs) = heads_put (put_one v ws) vs ∙ ap (λ (hs : List Value). put_each hs (map head vs)) (head_put v ws)

unindexed : (vs : List Value) → map (λ e. e.1) (by_index vs) ≡ vs
unindexed [] = refl
unindexed (v ∷ vs) = ap (λ ws. v ∷ ws) (unindexed vs)

same_by_index : (vs ws : List Value) → by_index vs ≡ by_index ws → vs ≡ ws
same_by_index vs ws is = sym (unindexed vs) ∙ ap (map (λ e. e.1)) is ∙ unindexed ws

-- ---- the values of a handle rise, where each stands at its own index

-- what is put last at an index is what stands there, if each value stands at its own
put_own : (f : ℕ → Option Value) (vs : List Value) (i : ℕ) (x : Option Value) → AllByRecursion (λ v. f v.index ≡ Some v) vs → put_at vs i x ≡ cond (is_some (value_with i vs)) (f i) x
put_own f [] i x own = refl
put_own f (v ∷ vs) i x own = put_own f vs i (cond (is_eq (nat_cmp i v.index)) (Some v) x) own.1 ∙ by_test (v.index == i) refl
  where
    pick : (b : Bool) → Some v ≡ f i → cond b (f i) (Some v) ≡ f i
    pick true e = refl
    pick false e = e

    by_test : (b : Bool) → (v.index == i) ≡ b
        → cond (is_some (value_with i vs)) (f i) (cond (is_eq (nat_cmp i v.index)) (Some v) x) ≡ cond (is_some (cond b (Some v) (value_with i vs))) (f i) x
    by_test true is =
        ap (λ c. cond (is_some (value_with i vs)) (f i) (cond c (Some v) x)) (index_test i v.index ∙ is)
        ∙ pick (is_some (value_with i vs)) (sym own.0 ∙ ap f (eqb-true v.index i is))
    by_test false is = ap (λ c. cond (is_some (value_with i vs)) (f i) (cond c (Some v) x)) (index_test i v.index ∙ is)

itself : (o : Option Value) → cond (is_some o) o None ≡ o
itself None = refl
itself (Some v) = refl

values_rise : (t : Table) (h : List ℕ) → HaveTheirIndexes t h (values_of t h) → Rise (values_of t h)
values_rise t h have =
    let vs = values_of t h in
    let put = values_put (put_each [] (values_of t h)) [] (values_of t h) (each_put [] (values_of t h)) refl in
    let there : (i : ℕ) → at t (place h i) ≡ find nat_cmp i (by_index (put_each [] (values_of t h))) =
    λ i. sym (put.1 i ∙ put_own (λ j. at t (place h j)) vs i None (stand_at_their_own t h have) ∙ ap (λ o. cond (is_some o) (at t (place h i)) None) (have i) ∙ itself (at t (place h i))) in
    subst Rise (sym (values_are t h (put_each [] vs) put.0 there)) put.0

-- ---- the table after values were put

with_index : (vs : List Value) (i : ℕ) → value_with i vs ≡ find nat_cmp i (by_index vs)
with_index [] i = refl
with_index (v ∷ vs) i = (λ k. cond (sym (index_test i v.index) k) (Some v) (with_index vs i k))

record Puts (t : Table) (h : List ℕ) (ws : List Value) : Type 0 where
  found : values_of t h ≡ ws
  own : HaveTheirIndexes t h ws

puts : (t : Table) (h : List ℕ) (vs ws : List Value) → HaveTheirIndexes t h (values_of t h) → by_index ws ≡ put_all (by_index (values_of t h)) vs → Puts (with_values t h vs) h ws
puts t h vs ws have is =
    let old = values_of t h in
    let put = values_put ws (values_of t h) vs is (values_rise t h have) in
    let there : (i : ℕ) → at (with_values t h vs) (place h i) ≡ find nat_cmp i (by_index ws) =
    λ i. at-after_write t (Add h vs) (place h i) ∙ ap (λ b. cond b (put_at vs i (at t (place h i))) (at t (place h i))) (handle_itself h)
    ∙ ap (put_at vs i) (sym (have i) ∙ with_index old i) ∙ sym (put.1 i) in
    record { found = values_are (with_values t h vs) h ws put.0 there; own = λ i. with_index ws i ∙ sym (there i) }

pub values_with : (t : Table) (h : List ℕ) (old vs ws : List Value) → IsFound t h old → by_index ws ≡ put_all (by_index old) vs → IsFound (with_values t h vs) h ws
values_with t h old vs ws was is =
    let done = puts t h vs ws (subst (HaveTheirIndexes t h) was.found was.by_index) (is ∙ ap (λ (xs : List Value). put_all (by_index xs) vs) was.found) in
    record { there = was.there; found = sym done.found; by_index = done.own }

pub heads_with : (t : Table) (h : List ℕ) (old vs ws : List Value) → AreHeads t h old → by_index ws ≡ put_all (by_index old) (map head vs) → AreHeads (with_values t h vs) h ws
heads_with t h old vs ws were is =
    let values = values_of t h in
    let done = puts t h vs (put_each (values_of t h) vs) were.by_index (each_put (values_of t h) vs) in
    let same : ws ≡ put_each (map head (values_of t h)) (map head vs) =
    same_by_index ws (put_each (map head (values_of t h)) (map head vs)) (is ∙ ap (λ (xs : List Value). put_all (by_index xs) (map head vs)) were.found ∙ sym (each_put (map head (values_of t h)) (map head vs))) in
    record {
      there = were.there;
      found = same ∙ sym (heads_put values vs) ∙ ap (map head) (sym done.found);
      by_index = subst (HaveTheirIndexes (with_values t h vs) h) (sym done.found) done.own;
    }

-- ---- the table after a handle was created

no_values : (t : Table) (h : List ℕ) → IsAbsent t h → values_of t h ≡ []
no_values t h is = values_are t h [] refl is.none

-- before its values are put
pub created_found : (t : Table) (h : List ℕ) → IsAbsent t h → IsFound (with_new_handle t h []) h []
created_found t h is = record { there = (created_is_there_lem t h [] tt).0; found = sym (no_values t h is); by_index = λ i. sym (is.none i) }

pub created_heads : (t : Table) (h : List ℕ) → IsAbsent t h → AreHeads (with_new_handle t h []) h []
created_heads t h is =
    let found = created_found t h is in
    record { there = found.there; found = ap (map head) found.found; by_index = subst (HaveTheirIndexes (with_new_handle t h []) h) found.found found.by_index }
