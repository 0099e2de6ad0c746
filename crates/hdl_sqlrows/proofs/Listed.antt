-- The rows that a query answers, in their order.
use Rattle.std.proofs.Common.{◌≡◌, ℕ, ◌+◌, pos, List, [], ◌∷◌, ◌++◌, map, filter, Bool, true, false, cond, ◌&&◌, if◌then◌else◌, Some, refl, sym, ap, subst, ◌∙◌, arith, Ordering, is_lt}
use Rattle.std.specs.List.{list_all, flat_map, AllByRecursion}
use Rattle.std.specs.List.Sorted.{IsPermutation, IsSorted}
use Rattle.std.specs.Ordering.{is_eq, nat_cmp, int_cmp}
use Rattle.std.proofs.lemmas.List.{length-map, get_or-map}
use Rattle.std.proofs.Math.Bool.{and-true}
use Rattle.std.proofs.lemmas.Bool.Decides.{nat_tests}
use Rattle.std.proofs.lemmas.Cmp.{nat_list_cmp_total, nat_cmp_total, eq_by_cmp_equiv}
use Rattle.sqlite_value.specs.declared.value.Value.{Value}
use Rattle.sqlite_value.specs.declared.value.Value.TheVariants.{Null, Int, Blob}
use Rattle.sqlite_value.specs.declared.keys.Collation.TheVariants.{Binary}
use Rattle.sqlite_value.specs.declared.keys.Key.{Key}
use Rattle.sqlite_value.specs.Order.{Row, column, value_cmp}
use Rattle.sqlite_value.proofs.OrderLemmas.{value_cmp-Int, value_cmp-Blob}
use Rattle.sqlite_trees.specs.Tree.{Trees}
use Rattle.sqlite_trees.proofs.ListLemmas.{map-map, pull_back, all-get_or}
use Rattle.sqlite_sql.specs.Term.{Term, Env, holds, eval_all}
use Rattle.sqlite_sql.specs.Ops.{binary, is_true, from_truth}
use Rattle.sqlite_sql.specs.Query.{Query, Output, output, output_cmp, key_cmp, IsAnswer, IsSureAnswer}
use Rattle.sqlite_sql.specs.Program.{overlay}
use Rattle.sqlite_sql.specs.declared.ops.BinaryOp.TheVariants.{Compare}
use Rattle.sqlite_sql.specs.declared.ops.CompareOp.TheVariants.{Eq}
use Rattle.hdl_value.specs.Place.{same_handle}
use Rattle.hdl_rows.specs.Table.{place}
use Rattle.hdl_rows.proofs.Writes.{at_place}
use Rattle.hdl_sqlrows.specs.Stored.{handle_in, number, has_place, IsEntryRow}
use Rattle.hdl_sqlrows.proofs.Texts.{rows_where, is_param}

-- whether WHERE keeps a row
abbrev pub keeps : Row → List Term → Row → Bool
keeps params tests row = list_all (holds (params ∷ row ∷ [])) tests

-- ---- tests

truth_of : (b : Bool) → is_true (from_truth (Some b)) ≡ b
truth_of true = refl
truth_of false = refl

pub same_blob : (a b : List ℕ) → is_true (binary (Compare Eq Binary) (Blob a) (Blob b)) ≡ same_handle a b
unfolding binary
same_blob a b = truth_of (is_eq (value_cmp (Blob a) (Blob b))) ∙ ap is_eq (value_cmp-Blob a b)

nat_int : (m n : ℕ) → int_cmp (pos m) (pos n) ≡ nat_cmp m n
nat_int m n = grind (arith, nat_tests)

pub cmp-numbers : (m n : ℕ) → value_cmp (Int (pos m)) (Int (pos n)) ≡ nat_cmp m n
cmp-numbers m n = value_cmp-Int (pos m) (pos n) ∙ nat_int m n

same_number : (m n : ℕ) → is_true (binary (Compare Eq Binary) (Int (pos m)) (Int (pos n))) ≡ is_eq (nat_cmp m n)
unfolding binary
same_number m n = truth_of (is_eq (value_cmp (Int (pos m)) (Int (pos n)))) ∙ ap is_eq (cmp-numbers m n)

blob_test : (v : Value) (a b : List ℕ) → v ≡ Blob a → (is_true (binary (Compare Eq Binary) v (Blob b)) && true) ≡ same_handle a b
blob_test v a b is = ap (λ x. is_true (binary (Compare Eq Binary) x (Blob b)) && true) is ∙ and-true _ ∙ same_blob a b

-- the test of a handle's row is that of its name, or of its authority
pub tests_name : (h : List ℕ) (r : Row) → column r 1 ≡ Blob (handle_in r) → keeps (Blob h ∷ []) (is_param 1 0 ∷ []) r ≡ same_handle (handle_in r) h
tests_name h r is = blob_test (column r 1) (handle_in r) h is

pub tests_authority : (a b : List ℕ) (r : Row) → column r 2 ≡ Blob b → keeps (Blob a ∷ []) (is_param 2 0 ∷ []) r ≡ same_handle b a
tests_authority a b r is = blob_test (column r 2) b a is

-- that of an entry's is that of its handle, or of its place
pub tests_entry : (h : List ℕ) (r : Row) → IsEntryRow r → keeps (Blob h ∷ []) (is_param 1 0 ∷ []) r ≡ same_handle (handle_in r) h
tests_entry h r is = blob_test (column r 1) (handle_in r) h is.name

pub swapped : (g h : List ℕ) → same_handle g h ≡ same_handle h g
swapped = (eq_by_cmp_equiv nat_list_cmp_total).symm

back : (m n : ℕ) → is_eq (nat_cmp m n) ≡ is_eq (nat_cmp n m)
back m n = (eq_by_cmp_equiv nat_cmp_total).symm m n

joined : (a b : Bool) → (a && (b && true)) ≡ cond a b false
joined true b = and-true b
joined false b = refl

pub tests_place : (h : List ℕ) (i : ℕ) (r : Row) → IsEntryRow r → keeps (Blob h ∷ Int (pos i) ∷ []) (is_param 1 0 ∷ is_param 2 1 ∷ []) r ≡ has_place (place h i) r
tests_place h i r is =
    (λ k. is_true (binary (Compare Eq Binary) (is.name k) (Blob h)) && (is_true (binary (Compare Eq Binary) (is.index k) (Int (pos i))) && true))
    ∙ (λ k. same_blob (handle_in r) h k && (same_number (number (column r 2)) i k && true))
    ∙ joined _ _
    ∙ (λ k. cond (swapped (handle_in r) h k) (back (number (column r 2)) i k) false)
    ∙ sym (at_place (place h i) (handle_in r) (number (column r 2)))

-- ---- answers

chosen : (b : Bool) (e : Env) (es : List Env) → (if b then e ∷ [] else []) ++ es ≡ (if b then e ∷ es else es)
chosen true e es = refl
chosen false e es = refl

mapped : (f : Row → Env) (b : Bool) (r : Row) (rs : List Row) → (if b then f r ∷ map f rs else map f rs) ≡ map f (if b then r ∷ rs else rs)
mapped f true r rs = refl
mapped f false r rs = refl

picked : (params : Row) (tests : List Term) (rows : List Row)
    → flat_map (λ r. if keeps params tests r then (params ∷ r ∷ []) ∷ [] else []) rows ≡ map (λ r. params ∷ r ∷ []) (filter (keeps params tests) rows)
picked params tests [] = refl
picked params tests (r ∷ rows) =
    ap (λ es. (if keeps params tests r then (params ∷ r ∷ []) ∷ [] else []) ++ es) (picked params tests rows)
    ∙ chosen (keeps params tests r) (params ∷ r ∷ []) _ ∙ mapped (λ x. params ∷ x ∷ []) (keeps params tests r) r _

-- by what rows are ordered
abbrev pub order_cmp : List (Term × Key) → Row → Row → Row → Ordering
order_cmp order params a b = key_cmp 0 (map (λ k. k.1) order) (eval_all (map (λ k. k.0) order) (params ∷ a ∷ [])) (eval_all (map (λ k. k.0) order) (params ∷ b ∷ []))

-- the rows that pass, in an order that ORDER BY allows, each as it is shown
pub record Listed (tree : ℕ) (tests project : List Term) (order : List (Term × Key)) (db : Trees) (params : Row) (rows : List Row) : Type 0 where
  pub to : List Row
  pub moved : IsPermutation (filter (keeps params tests) (db tree)) to
  pub sorted : IsSorted (order_cmp order params) to
  pub shown : rows ≡ map (λ r. eval_all project (params ∷ r ∷ [])) to

sorted_from : {A B : Type 0} (f : A → B) (cmp : B → B → Ordering) (xs : List A) → IsSorted cmp (map f xs) → IsSorted (λ a b. cmp (f a) (f b)) xs
sorted_from f cmp xs h = λ k d low lt.
    let len = length-map xs f in
    (λ i. is_lt (cmp (sym (get_or-map f xs (k + 1) d (f d) lt) i) (sym (get_or-map f xs k d (f d) (omega (arith, lt))) i))) ∙ h k (f d) low (omega (arith, lt, len))

pub sorted_alike : {A : Type 0} (cmp other : A → A → Ordering) (P : A → Type 0) (xs : List A) → AllByRecursion P xs → ((a b : A) → P a → P b → other a b ≡ cmp a b) → IsSorted cmp xs → IsSorted other xs
sorted_alike cmp other P xs all same h = λ k d low lt.
    ap is_lt (same _ _ (all-get_or P xs (k + 1) d all lt) (all-get_or P xs k d all (omega (arith, lt)))) ∙ h k d low lt

pub listed : (tree : ℕ) (tests project : List Term) (order : List (Term × Key)) (db : Trees) (params : Row) (rows : List Row) → overlay db [] tree ≡ db tree
    → IsSureAnswer (record (rows_where tree tests project) { order = order }) (overlay db []) params rows → Listed tree tests project order db params rows
listed tree tests project order db params rows low h =
    let q : Query = record (rows_where tree tests project) { order = order } in
    let a : IsAnswer (record (rows_where tree tests project) { order = order }) (overlay db []) params rows = h Null in
    let passing : List Row = filter (keeps params tests) (db tree) in
    let staged : a.staged ≡ map (λ r. params ∷ r ∷ []) (filter (keeps params tests) (db tree)) =
    a.grouped ∙ ap (flat_map (λ r. if keeps params tests r then (params ∷ r ∷ []) ∷ [] else [])) low ∙ picked params tests (db tree) in
    let kept : a.kept ≡ map (λ r. output q (params ∷ r ∷ [])) (filter (keeps params tests) (db tree)) = a.distinct ∙ ap (map (output q)) staged ∙ map-map _ _ _ in
    let from = pull_back (λ r. output q (params ∷ r ∷ [])) a.kept a.ordered a.same (filter (keeps params tests) (db tree)) kept in
    record {
      to = from.0;
      moved = from.1;
      sorted = sorted_from (λ r. output q (params ∷ r ∷ [])) (output_cmp q) from.0 (subst (IsSorted (output_cmp q)) from.2 a.sorted);
      shown = a.shown ∙ ap (map (λ (o : Output). o.1)) from.2 ∙ map-map _ _ _;
    }
