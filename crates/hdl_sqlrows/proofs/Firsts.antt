-- First values that are put one after the other.
use Rattle.std.proofs.Common.{true≢false, ◌≡◌, ◌≢◌, ℕ, suc, ◌+◌, ◌<◌, List, [], ◌∷◌, ◌++◌, map, filter, take, drop, length, get_or, fold, add-one, drop-cons, Bool, true, false, cond, not, Option, None, Some, refl, sym, ap, subst, ◌∙◌, arith}
use Rattle.std.specs.Borrow.{Bor}
use Rattle.std.specs.FinMap as map
use Rattle.std.specs.FinSet as set
use Rattle.std.specs.List.{AllByRecursion, AllPairs}
use Rattle.std.proofs.lemmas.List.{length-map, get_or-map, take_more}
use Rattle.std.proofs.lemmas.List.Elements.{filter-append}
use Rattle.std.proofs.lemmas.List.Kept.{AllPairs-filter}
use Rattle.sqlite.specs.Effect.{Database}
use Rattle.sqlite.specs.State.{State}
use Rattle.sqlite.specs.Held.{Held, state}
use Rattle.sqlite_trees.specs.declared.store.Store.{Ghosts}
use Rattle.hdl_value.specs.Place.{Place, handle_cmp, place_cmp, same_place}
use Rattle.hdl_value.specs.declared.value.Value.{Value}
use Rattle.hdl_value.proofs.Places.{place_total, places_equal}
use Rattle.hdl_rows.specs.Table.{Table, no_rows, has, at, IsPlaced}
use Rattle.hdl_rows.proofs.Writes.{some_none}
use Rattle.hdl_sqlrows.specs.Stored.{handle_in, table_in}
use Rattle.hdl_sqlrows.specs.Filed.{WhereOpen, IsDraft, draft_table}
use Rattle.hdl_sqlrows.proofs.Filed.{IsEven, of_now}
use Rattle.hdl_sqlrows.specs.Opening.{First, first_at, handle, place_of, with_first, noted_with, opened_with, left_to_open, absent, Base, base_in, filed_base, AreFree, OnlyLooks}

-- the one at a place, and those behind it
pub first_of : (firsts : List (Bor First)) (i : ℕ) (r : Bor First) → r ≡ get_or firsts i r → i < length firsts → drop i (map first_at firsts) ≡ first_at r ∷ drop (i + 1) (map first_at firsts)
first_of firsts i r is lt =
    let len = length-map firsts first_at in
    let inside : i < length (map first_at firsts) = omega (arith, len, lt) in
    let here : get_or (map first_at firsts) i (first_at r) ≡ first_at r = get_or-map first_at firsts i r (first_at r) lt ∙ ap first_at (sym is) in
    rw (add-one, drop-cons (map first_at firsts) i (first_at r)) (ap (λ x. x ∷ drop (suc i) (map first_at firsts)) here)

pub put_more : (t next : Table) (firsts : List (Bor First)) (i : ℕ) (r : Bor First) → r ≡ get_or firsts i r → i < length firsts → AreFree t (drop i (map first_at firsts)) → next ≡ with_first t (first_at r)
    → AreFree next (drop (i + 1) (map first_at firsts)) × (fold with_first next (drop (i + 1) (map first_at firsts)) ≡ fold with_first t (drop i (map first_at firsts)))
put_more t next firsts i r is lt free put =
    let split = first_of firsts i r is lt in
    let rest = drop (i + 1) (map first_at firsts) in
    (subst (λ x. AreFree x rest) (sym put) (subst (AreFree t) split free).1, ap (λ x. fold with_first x rest) put ∙ ap (fold with_first t) (sym split))

pub note_more : (base next : Base) (firsts : List (Bor First)) (i : ℕ) (r : Bor First) → r ≡ get_or firsts i r → i < length firsts → next ≡ noted_with base (first_at r ∷ [])
    → noted_with next (drop (i + 1) (map first_at firsts)) ≡ noted_with base (drop i (map first_at firsts))
note_more base next firsts i r is lt noted =
    ap (λ b. noted_with b (drop (i + 1) (map first_at firsts))) noted ∙ ap (noted_with base) (sym (first_of firsts i r is lt))

-- ---- those that are kept

-- one more, if it passes
pub keep_more : (p : First → Bool) (xs : List First) (i : ℕ) (x : First) (is_out : Bool) (old new : List First) → x ≡ get_or xs i x → i < length xs → not is_out ≡ p x → old ≡ filter p (take i xs)
    → new ≡ old ++ filter (λ (_ : First). not is_out) (x ∷ []) → new ≡ filter p (take (i + 1) xs)
keep_more p xs i x is_out old new is lt test so_far more =
    more ∙ (λ k. so_far k ++ cond (test k) (x ∷ []) [])
    ∙ sym (ap (filter p) (take_more xs i x lt) ∙ filter-append p (take i xs) (get_or xs i x ∷ []) ∙ ap (λ y. filter p (take i xs) ++ filter p (y ∷ [])) (sym is))

-- the same among references
pub keep_next : (p : First → Bool) (firsts : List (Bor First)) (i : ℕ) (r : Bor First) (is_out : Bool) (old new : List First) → r ≡ get_or firsts i r → i < length firsts → not is_out ≡ p (first_at r)
    → old ≡ filter p (take i (map first_at firsts)) → new ≡ old ++ filter (λ (_ : First). not is_out) (first_at r ∷ []) → new ≡ filter p (take (i + 1) (map first_at firsts))
keep_next p firsts i r is_out old new is lt test so_far more =
    let len = length-map firsts first_at in
    keep_more p (map first_at firsts) i (first_at r) is_out old new (sym (get_or-map first_at firsts i r (first_at r) lt ∙ ap first_at (sym is))) (omega (arith, len, lt)) test so_far more

-- ---- places that are free

from_each : {X : Type 0} (P : X → Type 0) (xs : List X) → ((k : ℕ) (d : X) → k < length xs → P (get_or xs k d)) → AllByRecursion P xs
from_each P [] each = tt
from_each P (x ∷ xs) each = (each 0 x (omega arith), from_each P xs (λ k d lt. each (suc k) d (omega (arith, lt))))

abbrev Apart : First → First → Type 0
Apart a b = place_of a ≢ place_of b

other_place : (t : Table) (a b : First) → Apart a b → at t (place_of b) ≡ None → at (with_first t a) (place_of b) ≡ None
other_place t a b apart none = map.get-insert place_total t.values (place_of a) a.1 (place_of b) ∙ by (same_place (place_of b) (place_of a)) refl
  where
    by : (e : Bool) → same_place (place_of b) (place_of a) ≡ e → cond e (Some a.1) (at t (place_of b)) ≡ None
    by true is = absurd (apart (sym (places_equal (place_of b) (place_of a) is)))
    by false is = none

others_free : (t : Table) (a : First) (rest : List First) → AllByRecursion (Apart a) rest → AllByRecursion (λ b. at t (place_of b) ≡ None) rest → AllByRecursion (λ b. at (with_first t a) (place_of b) ≡ None) rest
others_free t a [] apart none = tt
others_free t a (b ∷ rest) apart none = (other_place t a b apart.0 none.0, others_free t a rest apart.1 none.1)

all_free : (t : Table) (firsts : List First) → AllPairs Apart firsts → AllByRecursion (λ b. at t (place_of b) ≡ None) firsts → AreFree t firsts
all_free t [] apart none = tt
all_free t (a ∷ rest) apart none =
    let first : AllByRecursion (Apart a) rest = from_each (Apart a) rest (λ k d lt. apart 0 (suc k) d (omega arith) (omega (arith, lt))) in
    (none.0, all_free (with_first t a) rest (λ i j d lt within. apart (suc i) (suc j) d (omega (arith, lt)) (omega (arith, within))) (others_free t a rest first none.1))

absent_free : (t : Table) → IsPlaced t → (firsts : List First) → AllByRecursion (λ b. at t (place_of b) ≡ None) (absent t firsts)
absent_free t placed [] = tt
absent_free t placed (a ∷ rest) = by (has t (handle a)) refl (absent_free t placed rest)
  where
    none_at : (v : Option Value) → at t (place_of a) ≡ v → has t (handle a) ≡ false → v ≡ None
    none_at None is out = refl
    none_at (Some v) is out = absurd (true≢false (sym (placed (place_of a) v is) ∙ out))

    by : (b : Bool) → has t (handle a) ≡ b → AllByRecursion (λ x. at t (place_of x) ≡ None) (absent t rest) → AllByRecursion (λ x. at t (place_of x) ≡ None) (cond (not b) (a ∷ absent t rest) (absent t rest))
    by true is rest_free = rest_free
    by false is rest_free = (none_at (at t (place_of a)) refl is, rest_free)

pairs_of : (firsts : List First) → AllPairs (λ (p q : Place). p ≢ q) (map place_of firsts) → AllPairs Apart firsts
pairs_of firsts distinct = λ i j d less within same.
    let len = length-map firsts place_of in
    distinct i j (place_of d) less (omega (arith, within, len)) (get_or-map place_of firsts i d (place_of d) (omega (arith, less, within)) ∙ same ∙ sym (get_or-map place_of firsts j d (place_of d) within))

free_all : (t : Table) (opened : set.FinSet handle_cmp) (firsts : List First) → IsPlaced t → AllPairs (λ (p q : Place). p ≢ q) (map place_of firsts) → AreFree t (absent t (left_to_open opened firsts))
free_all t opened firsts placed distinct =
    all_free t _ (AllPairs-filter Apart _ _ (AllPairs-filter Apart _ firsts (pairs_of firsts distinct))) (absent_free t placed (left_to_open opened firsts))

pub nothing_placed : IsPlaced no_rows
nothing_placed p v is = absurd (some_none v (sym is ∙ map.get-empty place_cmp p))

-- ---- after the looks, and after the writes

module _ (s0 s1 s2 : State) (all new fresh : List First) (one : OnlyLooks s0 s1) (two : OnlyLooks s1 s2) (new_is : new ≡ left_to_open (base_in s0.now.trees).opened all) (fresh_is : fresh ≡ absent (draft_table s1) new) where
  fresh_first : fresh ≡ absent (draft_table s0) (left_to_open (base_in s0.now.trees).opened all)
  fresh_first = fresh_is ∙ (λ k. absent (table_in (one.now k).trees) (new_is k))

  drafted_first : draft_table s2 ≡ draft_table s0
  drafted_first = ap (λ (d : Database). table_in d.trees) (two.now ∙ one.now)

  pub free_then : IsPlaced (draft_table s0) → AllPairs (λ (p q : Place). p ≢ q) (map place_of all) → AreFree (draft_table s2) fresh
  free_then placed distinct =
      subst (AreFree (draft_table s2)) (sym fresh_first) (subst (λ (t : Table). AreFree t (absent (draft_table s0) (left_to_open (base_in s0.now.trees).opened all))) (sym drafted_first) (free_all (draft_table s0) (base_in s0.now.trees).opened all placed distinct))

  pub opened_by : (s3 s4 : State) → IsDraft s3 (fold with_first (draft_table s2) fresh) → s3.now.trees 4 ≡ s2.now.trees 4 → base_in s4.now.trees ≡ noted_with (base_in s3.now.trees) new → base_in s4.now.trees ≡ opened_with (base_in s0.now.trees) all
  opened_by s3 s4 put beside noted =
      let table : draft_table s3 ≡ fold with_first (draft_table s0) (absent (draft_table s0) (left_to_open (base_in s0.now.trees).opened all)) = put.2 ∙ (λ k. fold with_first (drafted_first k) (fresh_first k)) in
      let rows : s3.now.trees 4 ≡ s0.now.trees 4 = beside ∙ ap (λ (d : Database). d.trees 4) (two.now ∙ one.now) in
      noted ∙ (λ k. noted_with (record { table = table k; opened = set.from_list (map handle_in (rows k)) }) (new_is k))

-- ---- as a transaction begins

pub begun_base : {S : Type 0} (g : Ghosts S) (old first : Held S) → first ≡ record old { in_transaction = true } → IsEven (state g old) → WhereOpen (state g first) (base_in (state g first).now.trees ≡ filed_base (state g old))
begun_base g old first is same clean up = (of_now g old first (λ (d : Database). base_in d.trees ≡ filed_base (state g old)) is (λ c u. ap (λ (d : Database). base_in d.trees) (sym (same c u))) clean up).0
