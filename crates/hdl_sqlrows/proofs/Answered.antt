-- What the queries answer of the table.
use Rattle.std.proofs.Common.{◌≡◌, ℕ, ◌≤◌, pos, List, [], ◌∷◌, map, filter, length, Bool, true, false, cond, not, ◌==◌, ◌||◌, ◌&&◌, T, None, Some, refl, sym, ap, subst, ◌∙◌, arith, Equal, is_eq}
use Rattle.std.specs.List.{AllByRecursion, list_any}
use Rattle.std.specs.List.Sorted.{IsPermutation}
use Rattle.std.specs.Ordering.{nat_cmp, ordering_then, eq_by_cmp}
use Rattle.std.specs.FinMap as map
use Rattle.std.specs.FinMap.{is_sorted}
use Rattle.std.specs.FinSet as set
use Rattle.std.proofs.lemmas.List.{length-map}
use Rattle.std.proofs.lemmas.List.Sorted.{length_permutation}
use Rattle.std.proofs.lemmas.Bool.Decides.{nat_tests}
use Rattle.sqlite_value.specs.declared.keys.Collation.TheVariants.{Binary}
use Rattle.sqlite_value.specs.declared.value.Value.TheVariants.{Int, Blob}
use Rattle.sqlite_value.specs.Keys.{ascending}
use Rattle.sqlite_value.specs.Order.{Row, column, value_cmp}
use Rattle.sqlite_value.proofs.OrderLemmas.{value_cmp-Blob, then-Equal}
use Rattle.sqlite_trees.specs.Tree.{Trees}
use Rattle.sqlite_trees.proofs.ListLemmas.{map-map, IsPermutation-filter, filter_same, all-filter, all-permutation, all_weaker, all_both}
use Rattle.sqlite_sql.specs.Term.{col}
use Rattle.sqlite.specs.State.{State, Shown}
use Rattle.sqlite.proofs.Callers.{reads_as}
use Rattle.hdl_name.specs.Name.{authority}
use Rattle.hdl_value.specs.Place.{Place, handle_cmp, place_cmp, same_handle}
use Rattle.hdl_value.proofs.Places.{handle_total, handle_antisymmetric, place_total, place_antisymmetric, handle_itself}
use Rattle.hdl_rows.specs.Table.{place, has, at, values_of, names_of, value_with, HaveTheirIndexes, key}
use Rattle.hdl_rows.proofs.Writes.{at_place}
use Rattle.hdl_rows.proofs.ShelfLemmas.{index_test, nothing, find-keys}
use Rattle.hdl_sqlrows.specs.Layout.{layout}
use Rattle.hdl_sqlrows.specs.Stored.{number, handle_in, place_in, value_of, value_in, cells_of, entry_in, table_in, times, has_handle, has_place, IsHandleRow, IsEntryRow, AreKept, IsBetweenCalls, IsWhole}
use Rattle.hdl_sqlrows.specs.Shows.{first_in, handle_of}
use Rattle.hdl_sqlrows.proofs.Texts.{is_param, shown_terms, select_handle, select_entry, select_entries, select_names, select_handle_is, select_entry_is, select_entries_is, select_names_is, select_opened, select_opened_is, plain, unlisted, opened_plain}
use Rattle.hdl_sqlrows.proofs.Found.{times-filter, short_permutation, found_first, first_value, found_moved, found_kept, strictly_rises}
use Rattle.hdl_sqlrows.proofs.Listed.{keeps, Listed, listed, order_cmp, sorted_alike, tests_name, tests_authority, tests_entry, tests_place, swapped, cmp-numbers}

-- ---- one row at most

any_step : (b : Bool) (r : Row) (rs : List Row) (c : Bool) → c ≡ not (length rs == 0) → (b || c) ≡ not (length (cond b (r ∷ rs) rs) == 0)
any_step true r rs c h = grind (arith, nat_tests)
any_step false r rs c h = h

-- a row is found exactly where some row passes
pub some_pass : (p : Row → Bool) (rows : List Row) → list_any p rows ≡ not (length (filter p rows) == 0)
some_pass p [] = refl
some_pass p (r ∷ rows) = any_step (p r) r (filter p rows) (list_any p rows) (some_pass p rows)

-- a row that begins with a name as octets
abbrev HasName : Row → Type 0
HasName r = column r 1 ≡ Blob (handle_in r)

any_name : (h : List ℕ) (rows : List Row) → AllByRecursion HasName rows → list_any (same_handle h) (map handle_in rows) ≡ list_any (keeps (Blob h ∷ []) (is_param 1 0 ∷ [])) rows
any_name h [] all = refl
any_name h (r ∷ rows) all = λ i. (swapped h (handle_in r) ∙ sym (tests_name h r all.0)) i || any_name h rows all.1 i

-- some row is answered just where the name is in the set
pub finds_name : (tree : ℕ) (db : Trees) (h : List ℕ) (rows : List Row) → AllByRecursion HasName (db tree) → Listed tree (is_param 1 0 ∷ []) (col 1 1 ∷ []) [] db (Blob h ∷ []) rows
    → not (length rows == 0) ≡ set.contains (set.from_list {R = handle_cmp} (map handle_in (db tree))) h
finds_name tree db h rows named l =
    let count : length rows ≡ length (filter (keeps (Blob h ∷ []) (is_param 1 0 ∷ [])) (db tree)) = ap length l.shown ∙ length-map l.to _ ∙ length_permutation _ _ l.moved in
    ap (λ n. not (n == 0)) count ∙ sym (some_pass (keeps (Blob h ∷ []) (is_param 1 0 ∷ [])) (db tree)) ∙ sym (any_name h (db tree) named) ∙ sym (set.contains-from_list handle_total _ h)

pub finds_handle : (db : Trees) (h : List ℕ) (rows : List Row) → AreKept db → Listed 0 (is_param 1 0 ∷ []) (col 1 1 ∷ []) [] db (Blob h ∷ []) rows → not (length rows == 0) ≡ has (table_in db) h
finds_handle db h rows kept l = finds_name 0 db h rows (all_weaker IsHandleRow HasName (λ r is. is.name) (db 0) kept.handles) l

first_shown : (rows : List Row) → first_in (map cells_of rows) ≡ first_value place_total place_in value_in rows
first_shown [] = refl
first_shown (r ∷ rows) = refl

pub finds_value : (db : Trees) (h : List ℕ) (i : ℕ) (rows : List Row) → AreKept db → Listed 2 (is_param 1 0 ∷ is_param 2 1 ∷ []) shown_terms [] db (Blob h ∷ Int (pos i) ∷ []) rows
    → first_in rows ≡ at (table_in db) (place h i)
finds_value db h i rows kept l =
    let same = filter_same (keeps (Blob h ∷ Int (pos i) ∷ []) (is_param 1 0 ∷ is_param 2 1 ∷ [])) (has_place (place h i)) (db 2) (all_weaker IsEntryRow _ (λ r is. tests_place h i r is) (db 2) kept.entries) in
    let moved = subst (λ rs. IsPermutation rs l.to) same l.moved in
    let only : filter (has_place (place h i)) (db 2) ≡ l.to = short_permutation _ l.to (kept.places (place h i)) moved in
    ap first_in l.shown ∙ first_shown l.to ∙ ap (first_value place_total place_in value_in) (sym only)
    ∙ sym (map.get-from_entries place_total (map entry_in (db 2)) (place h i) ∙ found_first place_total place_in value_in (place h i) (db 2))

-- ---- the values of a handle

pub all_pass : (p : Row → Bool) (rows : List Row) → AllByRecursion (λ r. p r ≡ true) (filter p rows)
all_pass p [] = tt
all_pass p (r ∷ rows) = by_test (p r) refl (all_pass p rows)
  where
    by_test : (b : Bool) → p r ≡ b → AllByRecursion (λ s. p s ≡ true) (filter p rows) → AllByRecursion (λ s. p s ≡ true) (cond b (r ∷ filter p rows) (filter p rows))
    by_test true is rest = (is, rest)
    by_test false is rest = rest

place_order : (params a b : Row) → IsEntryRow a → IsEntryRow b → place_cmp (place_in a) (place_in b) ≡ order_cmp ((col 1 1, ascending Binary) ∷ (col 1 2, ascending Binary) ∷ []) params a b
place_order params a b is other =
    sym ((λ k. ordering_then (value_cmp (is.name k) (other.name k)) (ordering_then (value_cmp (is.index k) (other.index k)) Equal))
    ∙ (λ k. ordering_then (value_cmp-Blob (handle_in a) (handle_in b) k) ((then-Equal _ ∙ cmp-numbers (number (column a 2)) (number (column b 2))) k)))

-- of rows that pass a test of the key there is one for each key at most
single_moved : {K : Type 0} (test : K → Row → Bool) (keep : Row → Bool) (rows to : List Row) → ((k : K) → times (test k) rows ≤ 1) → IsPermutation (filter keep rows) to → (k : K) → length (filter (test k) to) ≤ 1
single_moved test keep rows to single moved k =
    let same = length_permutation _ _ (IsPermutation-filter (test k) (filter keep rows) to moved) in
    let fewer = times-filter (test k) keep rows in
    omega (arith, same, fewer, single k)

pub record AreValues (db : Trees) (h : List ℕ) (rows : List Row) : Type 0 where
  pub found : map value_of rows ≡ values_of (table_in db) h
  pub by_index : HaveTheirIndexes (table_in db) h (map value_of rows)

with_index : (h : List ℕ) (i : ℕ) (rows : List Row) → AllByRecursion (λ r. same_handle h (handle_in r) ≡ true) rows → value_with i (map value_in rows) ≡ map.find place_cmp (place h i) (map entry_in rows)
with_index h i [] all = refl
with_index h i (r ∷ rows) all =
    let test : eq_by_cmp place_cmp (place h i) (place_in r) ≡ (number (column r 2) == i) = at_place (place h i) (handle_in r) (number (column r 2)) ∙ ap (λ b. cond b (is_eq (nat_cmp i (number (column r 2)))) false) all.0 ∙ index_test i (number (column r 2)) in
    λ k. cond (sym test k) (Some (value_in r)) (with_index h i rows all.1 k)

pub lists_values : (db : Trees) (h : List ℕ) (rows : List Row) → AreKept db → Listed 2 (is_param 1 0 ∷ []) shown_terms ((col 1 1, ascending Binary) ∷ (col 1 2, ascending Binary) ∷ []) db (Blob h ∷ []) rows → AreValues db h rows
lists_values db h rows kept l =
    let keep : Row → Bool = keeps (Blob h ∷ []) (is_param 1 0 ∷ []) in
    let passing : List Row = filter (keeps (Blob h ∷ []) (is_param 1 0 ∷ [])) (db 2) in
    let tested : AllByRecursion (λ r. keeps (Blob h ∷ []) (is_param 1 0 ∷ []) r ≡ same_handle (handle_in r) h) (db 2) = all_weaker IsEntryRow _ (λ r is. tests_entry h r is) (db 2) kept.entries in
    let whole : AllByRecursion IsEntryRow l.to = all-permutation IsEntryRow passing l.to l.moved (all-filter IsEntryRow keep (db 2) kept.entries) in
    let single = single_moved has_place keep (db 2) l.to kept.places l.moved in
    let rising : T (is_sorted place_cmp (map entry_in l.to)) =
    strictly_rises place_total place_in value_in l.to (sorted_alike _ (λ a b. place_cmp (place_in a) (place_in b)) IsEntryRow l.to whole (place_order (Blob h ∷ [])) l.sorted) single in
    let found : (p : Place) → map.find place_cmp p (map entry_in l.to) ≡ cond (same_handle p.handle h) (at (table_in db) p) None = λ p.
    let fewer = times-filter (has_place p) keep (db 2) in
    sym (found_moved place_total place_in value_in p passing l.to l.moved (omega (arith, fewer, kept.places p)))
    ∙ found_kept place_total place_in value_in keep (λ q. same_handle q.handle h) p (λ q e. ap (λ (r : Place). same_handle r.handle h) (sym (place_antisymmetric p q e))) (db 2) tested
    ∙ ap (λ o. cond (same_handle p.handle h) o None) (sym (map.get-from_entries place_total (map entry_in (db 2)) p)) in
    let same : map.retain_keys (table_in db).values (λ q. same_handle q.handle h) ≡ map.from_sorted (map entry_in l.to) = map.same_map place_total place_antisymmetric _ _ (λ p.
    map.get-retain_keys (table_in db).values (λ q. same_handle q.handle h) p (λ q e. ap (λ (r : Place). same_handle r.handle h) (sym (place_antisymmetric p q e)))
    ∙ sym (map.get-from_sorted place_cmp (map entry_in l.to) p rising ∙ found p)) in
    let values : map value_of rows ≡ map value_in l.to = ap (map value_of) l.shown ∙ map-map _ _ _ in
    let of : AllByRecursion (λ r. same_handle h (handle_in r) ≡ true) l.to =
    all-permutation _ passing l.to l.moved (all_both (λ r. keep r ≡ true) IsEntryRow _ (λ r pass is. swapped h (handle_in r) ∙ sym (tests_entry h r is) ∙ pass) passing (all_pass keep (db 2)) (all-filter IsEntryRow keep (db 2) kept.entries)) in
    record {
      found = values ∙ sym (ap map.values same ∙ ap (map (λ e. e.1)) (map.entries-from_sorted place_cmp (map entry_in l.to) rising) ∙ map-map _ _ _);
      by_index = λ i. ap (value_with i) values ∙ with_index h i l.to of ∙ found (place h i) ∙ ap (λ b. cond b (at (table_in db) (place h i)) None) (handle_itself h);
    }

-- ---- the handles of an authority

gated : (a b : Bool) → cond b (cond a (Some nothing) None) None ≡ cond (a && b) (Some nothing) None
gated true true = refl
gated true false = refl
gated false true = refl
gated false false = refl

name_order : (params a b : Row) → IsHandleRow a → IsHandleRow b → handle_cmp (handle_in a) (handle_in b) ≡ order_cmp ((col 1 1, ascending Binary) ∷ []) params a b
name_order params a b is other = sym ((λ k. ordering_then (value_cmp (is.name k) (other.name k)) Equal) ∙ then-Equal _ ∙ value_cmp-Blob (handle_in a) (handle_in b))

abbrev none : Row → Unit {0}
none r = tt

pub lists_names : (db : Trees) (a : List ℕ) (rows : List Row) → AreKept db → Listed 0 (is_param 2 0 ∷ []) (col 1 1 ∷ []) ((col 1 1, ascending Binary) ∷ []) db (Blob a ∷ []) rows → map handle_of rows ≡ names_of (table_in db) a
lists_names db a rows kept l =
    let keep : Row → Bool = keeps (Blob a ∷ []) (is_param 2 0 ∷ []) in
    let passing : List Row = filter (keeps (Blob a ∷ []) (is_param 2 0 ∷ [])) (db 0) in
    let of : List ℕ → Bool = λ h. same_handle (authority h) a in
    let entries : List (List ℕ × Unit {0}) = map (λ r. (handle_in r, none r)) l.to in
    let tested : AllByRecursion (λ r. keeps (Blob a ∷ []) (is_param 2 0 ∷ []) r ≡ same_handle (authority (handle_in r)) a) (db 0) =
    all_weaker IsHandleRow _ (λ r is. tests_authority a (authority (handle_in r)) r is.authority) (db 0) kept.handles in
    let whole : AllByRecursion IsHandleRow l.to = all-permutation IsHandleRow passing l.to l.moved (all-filter IsHandleRow keep (db 0) kept.handles) in
    let single = single_moved has_handle keep (db 0) l.to kept.names l.moved in
    let rising : T (is_sorted handle_cmp (map (λ r. (handle_in r, none r)) l.to)) =
    strictly_rises handle_total handle_in none l.to (sorted_alike _ (λ x y. handle_cmp (handle_in x) (handle_in y)) IsHandleRow l.to whole (name_order (Blob a ∷ [])) l.sorted) single in
    let kept_of = set.retain (table_in db).handles (λ h. same_handle (authority h) a) in
    let same : map.from_entries {R = handle_cmp} (map key (set.items (set.retain (table_in db).handles (λ h. same_handle (authority h) a)))) ≡ map.from_sorted (map (λ r. (handle_in r, none r)) l.to) =
    map.same_map handle_total handle_antisymmetric _ _ (λ q.
    let fewer = times-filter (has_handle q) keep (db 0) in
    map.get-from_entries handle_total (map key (set.items kept_of)) q ∙ find-keys q (set.items kept_of)
    ∙ ap (λ b. cond b (Some nothing) None) (sym (set.contains-items kept_of q) ∙ set.contains-retain (table_in db).handles (λ h. same_handle (authority h) a) q (λ x e. ap (λ (h : List ℕ). same_handle (authority h) a) (sym (handle_antisymmetric q x e)))
    ∙ ap (λ b. b && same_handle (authority q) a) (set.contains-from_list handle_total (map handle_in (db 0)) q))
    ∙ sym (map.get-from_sorted handle_cmp entries q rising
    ∙ sym (found_moved handle_total handle_in none q passing l.to l.moved (omega (arith, fewer, kept.names q)))
    ∙ found_kept handle_total handle_in none keep of q (λ x e. ap (λ (h : List ℕ). same_handle (authority h) a) (sym (handle_antisymmetric q x e))) (db 0) tested
    ∙ ap (λ o. cond (same_handle (authority q) a) o None) (ap (map.find handle_cmp q) (sym (map-map key handle_in (db 0))) ∙ find-keys q (map handle_in (db 0)))
    ∙ gated (list_any (same_handle q) (map handle_in (db 0))) (same_handle (authority q) a))) in
    (ap (map handle_of) l.shown ∙ map-map _ _ _) ∙ sym (ap map.keys same ∙ ap (map (λ e. e.0)) (map.entries-from_sorted handle_cmp entries rising) ∙ map-map _ _ _)

-- ---- by their texts

pub shown_handle : (old new : State) (h : List ℕ) (rows : List Row) → IsWhole old.now → Shown select_handle (Blob h ∷ []) old new rows → not (length rows == 0) ≡ has (table_in old.now.trees) h
shown_handle old new h rows whole shown =
    let got = reads_as select_handle (Blob h ∷ []) old new layout whole.layout _ select_handle_is plain.2 unlisted.0 rows shown in
    finds_handle old.now.trees h rows whole.kept (listed 0 _ _ [] old.now.trees (Blob h ∷ []) rows refl got.answer)

pub shown_opened : (old new : State) (h : List ℕ) (rows : List Row) → IsWhole old.now → AllByRecursion HasName (old.now.trees 4) → Shown select_opened (Blob h ∷ []) old new rows
    → not (length rows == 0) ≡ set.contains (set.from_list {R = handle_cmp} (map handle_in (old.now.trees 4))) h
shown_opened old new h rows whole named shown =
    let got = reads_as select_opened (Blob h ∷ []) old new layout whole.layout _ select_opened_is opened_plain.1 opened_plain.2 rows shown in
    finds_name 4 old.now.trees h rows named (listed 4 _ _ [] old.now.trees (Blob h ∷ []) rows refl got.answer)

pub shown_value : (old new : State) (h : List ℕ) (i : ℕ) (rows : List Row) → IsBetweenCalls old → Shown select_entry (Blob h ∷ Int (pos i) ∷ []) old new rows → first_in rows ≡ at (table_in old.now.trees) (place h i)
shown_value old new h i rows settled shown =
    let got = reads_as select_entry (Blob h ∷ Int (pos i) ∷ []) old new layout settled.whole.layout _ select_entry_is plain.3 unlisted.1 rows shown in
    finds_value old.now.trees h i rows settled.whole.kept (listed 2 _ _ [] old.now.trees (Blob h ∷ Int (pos i) ∷ []) rows refl got.answer)

pub shown_values : (old new : State) (h : List ℕ) (rows : List Row) → IsBetweenCalls old → Shown select_entries (Blob h ∷ []) old new rows → AreValues old.now.trees h rows
shown_values old new h rows settled shown =
    let got = reads_as select_entries (Blob h ∷ []) old new layout settled.whole.layout _ select_entries_is plain.4 unlisted.2 rows shown in
    lists_values old.now.trees h rows settled.whole.kept (listed 2 _ _ _ old.now.trees (Blob h ∷ []) rows refl got.answer)

pub shown_names : (old new : State) (a : List ℕ) (rows : List Row) → IsBetweenCalls old → Shown select_names (Blob a ∷ []) old new rows → map handle_of rows ≡ names_of (table_in old.now.trees) a
shown_names old new a rows settled shown =
    let got = reads_as select_names (Blob a ∷ []) old new layout settled.whole.layout _ select_names_is plain.7 unlisted.3 rows shown in
    lists_names old.now.trees a rows settled.whole.kept (listed 0 _ _ _ old.now.trees (Blob a ∷ []) rows refl got.answer)
