-- Rows that are taken out by their rowids, and what DELETE makes of the table.
use Rattle.std.proofs.Common.{true≢false, ◌≡◌, inl, inr, ℕ, ◌≤◌, ◌+◌, suc, ℤ, pos, List, [], ◌∷◌, map, filter, length, get_or, drop, add-one, drop-cons, ◌<◌, Bool, true, false, cond, not, ◌&&◌, ◌||◌, ◌==◌, None, Option, Ok, refl, sym, ap, subst, ◌∙◌, arith, is_eq}
use Rattle.std.specs.FinMap as map
use Rattle.std.specs.FinSet as set
use Rattle.std.specs.List.{AllByRecursion, list_any}
use Rattle.std.specs.List.Sorted.{IsPermutation}
use Rattle.std.specs.Ordering.{eq_by_cmp}
use Rattle.std.proofs.lemmas.Cmp.{eq_by_cmp_equiv}
use Rattle.std.proofs.Math.Bool.{and_comm}
use Rattle.std.proofs.lemmas.List.{get_or_default, nil_from_length}
use Rattle.std.proofs.lemmas.List.Sorted.{length_permutation}
use Rattle.sqlite_value.specs.declared.value.Value.TheVariants.{Int, Blob}
use Rattle.sqlite_value.specs.Order.{Row, value_cmp}
use Rattle.sqlite_value.specs.Keys.{joined}
use Rattle.sqlite_value.proofs.OrderLemmas.{value_cmp_total}
use Rattle.sqlite_trees.specs.Tree.{Trees, rowid, has_rowid}
use Rattle.sqlite_trees.proofs.ListLemmas.{map-map, IsPermutation-filter, filter_same, filter_all, all-filter, all_of, all_weaker, all_both}
use Rattle.sqlite_schema.specs.Names.{same_name}
use Rattle.sqlite_schema.specs.declared.command.Command.TheVariants.{Delete}
use Rattle.sqlite_sql.specs.Term.{Term, col}
use Rattle.sqlite_rules.specs.Lists.{Has}
use Rattle.sqlite_rules.specs.Calls.{ids_of}
use Rattle.sqlite_rules.specs.declared.error.Rowids.TheVariants.{Given}
use Rattle.sqlite_rules.specs.Edit.{edit_of, id_in, without_all}
use Rattle.sqlite.specs.Effect.{Database}
use Rattle.sqlite.specs.Does.{Tally, Does}
use Rattle.sqlite.specs.Rows.{Written}
use Rattle.sqlite.specs.Listing.{understood}
use Rattle.sqlite.specs.State.{State, mode_of, Executes, ExecutesInside}
use Rattle.sqlite.proofs.Callers.{runs_as, statement_of, one_step}
use Rattle.hdl_value.specs.Place.{Place, place_cmp, same_place}
use Rattle.hdl_value.specs.declared.value.Value.{Value}
use Rattle.hdl_value.proofs.Places.{place_total, place_antisymmetric}
use Rattle.hdl_rows.specs.Table.{Table, place, at, without_values}
use Rattle.hdl_sqlrows.specs.Layout.{layout, entries}
use Rattle.hdl_sqlrows.specs.Stored.{IsWhole, IsInside, AreKept, IsHandleRow, IsEntryRow, place_in, entry_in, value_in, handle_in, table_in, has_place, has_handle}
use Rattle.hdl_sqlrows.specs.Filed.{IsDraft, draft_table}
use Rattle.hdl_sqlrows.proofs.Texts.{delete_entry, delete_entry_is, plain, is_param, rows_where}
use Rattle.hdl_sqlrows.proofs.Found.{times-filter, none_passes, none_more, found_kept}
use Rattle.hdl_sqlrows.proofs.Listed.{keeps, listed, tests_place}
use Rattle.hdl_sqlrows.proofs.Answered.{some_pass}
use Rattle.hdl_sqlrows.proofs.Parts.{went, same_value, no_index}

-- ---- membership

pub each_has : {X : Type 0} (xs : List X) → AllByRecursion (Has xs) xs
each_has [] = tt
each_has (x ∷ xs) = (inl refl, all_weaker (Has xs) (Has (x ∷ xs)) (λ y h. inr h) xs (each_has xs))

of_all : {X : Type 0} (P : X → Type 0) (xs : List X) (x : X) → AllByRecursion P xs → Has xs x → P x
of_all P [] x all h = absurd h
of_all P (y ∷ ys) x all (inl e) = subst P (sym e) all.0
of_all P (y ∷ ys) x all (inr h) = of_all P ys x all.1 h

-- where one passes at most, and this one does, it is all that pass
pub only : {X : Type 0} (p : X → Bool) (xs : List X) (x : X) → Has xs x → p x ≡ true → length (filter p xs) ≤ 1 → filter p xs ≡ x ∷ []
only p [] x h pass short = absurd h
only p (y ∷ ys) x (inl e) pass short =
    let here : p y ≡ true = sym (ap p e) ∙ pass in
    let rest : filter p ys ≡ [] = nil_from_length (filter p ys) (none_more p y ys here short) in
    ap (λ b. cond b (y ∷ filter p ys) (filter p ys)) here ∙ (λ i. sym e i ∷ rest i)
only p (y ∷ ys) x (inr h) pass short = by_test (p y) refl short (only p ys x h pass)
  where
    by_test : (b : Bool) → p y ≡ b → length (cond b (y ∷ filter p ys) (filter p ys)) ≤ 1 → (length (filter p ys) ≤ 1 → filter p ys ≡ x ∷ []) → cond b (y ∷ filter p ys) (filter p ys) ≡ x ∷ []
    by_test true is n rest =
        let none : length (filter p ys) ≡ 0 = omega (arith, n) in
        absurd (true≢false (sym pass ∙ of_all (λ z. p z ≡ false) ys x (none_passes p ys none) h))
    by_test false is n rest = rest n

-- ---- filters of filters

filter_both : {X : Type 0} (p q : X → Bool) (xs : List X) → filter p (filter q xs) ≡ filter (λ x. q x && p x) xs
filter_both p q [] = refl
filter_both p q (x ∷ xs) =
    elim (q x) as (λ b. filter p (cond b (x ∷ filter q xs) (filter q xs)) ≡ cond (b && p x) (x ∷ filter (λ y. q y && p y) xs) (filter (λ y. q y && p y) xs)) [
      | true ↦ ap (λ ys. cond (p x) (x ∷ ys) ys) (filter_both p q xs)
      | false ↦ filter_both p q xs
    ]

filters_turned : {X : Type 0} (p q : X → Bool) (xs : List X) → filter p (filter q xs) ≡ filter q (filter p xs)
filters_turned p q xs = filter_both p q xs ∙ filter_same (λ x. q x && p x) (λ x. p x && q x) xs (all_of _ (λ x. and_comm (q x) (p x)) xs) ∙ sym (filter_both q p xs)

not_or : (a b : Bool) → (not a && not b) ≡ not (a || b)
not_or true b = refl
not_or false b = refl

-- ---- rowids

abbrev pub id_of : Row → ℤ
id_of r = id_in (rowid r)

abbrev pub HasId : Row → Type 0
HasId r = rowid r ≡ Int (id_of r)

pub without_ids : (rows : List Row) (ids : List ℤ) → without_all rows ids ≡ filter (λ r. not (list_any (λ id. has_rowid id r) ids)) rows
without_ids rows [] = sym (filter_all (λ r. true) rows (all_of _ (λ r. refl) rows))
without_ids rows (id ∷ ids) =
    without_ids (filter (λ r. not (has_rowid id r)) rows) ids
    ∙ filter_both (λ r. not (list_any (λ i. has_rowid i r) ids)) (λ r. not (has_rowid id r)) rows
    ∙ filter_same _ (λ r. not (has_rowid id r || list_any (λ i. has_rowid i r) ids)) rows (all_of _ (λ r. not_or (has_rowid id r) (list_any (λ i. has_rowid i r) ids)) rows)

any-map : {X Y : Type 0} (f : X → Y) (p : Y → Bool) (xs : List X) → list_any p (map f xs) ≡ list_any (λ x. p (f x)) xs
any-map f p [] = refl
any-map f p (x ∷ xs) = ap (λ b. p (f x) || b) (any-map f p xs)

pub id_itself : (r : Row) → HasId r → has_rowid (id_of r) r ≡ true
id_itself r is = ap (λ v. is_eq (value_cmp v (Int (id_of r)))) is ∙ (eq_by_cmp_equiv value_cmp_total).refl (Int (id_of r))

id_turned : (r s : Row) → HasId r → HasId s → has_rowid (id_of s) r ≡ has_rowid (id_of r) s
id_turned r s is other =
    ap (λ v. is_eq (value_cmp v (Int (id_of s)))) is ∙ (eq_by_cmp_equiv value_cmp_total).symm (Int (id_of r)) (Int (id_of s)) ∙ ap (λ v. is_eq (value_cmp v (Int (id_of r)))) (sym other)

one_or_none : (b : Bool) (r : Row) → not (length (cond b (r ∷ []) []) == 0) ≡ b
one_or_none true r = refl
one_or_none false r = refl

-- the row's rowid is among those of the rows that pass, just where it passes itself
is_among : (keep : Row → Bool) (rows to : List Row) → AllByRecursion HasId rows → ((id : ℤ) → length (filter (has_rowid id) rows) ≤ 1) → IsPermutation (filter keep rows) to
    → (r : Row) → Has rows r → HasId r → list_any (λ id. has_rowid id r) (map id_of to) ≡ keep r
is_among keep rows to ids single moved r has is =
    let test : Row → Bool = λ s. has_rowid (id_of s) r in
    let alone : filter (has_rowid (id_of r)) rows ≡ r ∷ [] = only (has_rowid (id_of r)) rows r has (id_itself r is) (single (id_of r)) in
    let all : AllByRecursion HasId (filter keep rows) = all-filter HasId keep rows ids in
    let count : length (filter (λ s. has_rowid (id_of s) r) to) ≡ length (filter (λ s. has_rowid (id_of s) r) (filter keep rows)) = length_permutation _ _ (IsPermutation-filter test (filter keep rows) to moved) in
    any-map id_of (λ id. has_rowid id r) to ∙ some_pass test to
    ∙ ap (λ n. not (n == 0)) (count ∙ ap length (filter_same test (has_rowid (id_of r)) (filter keep rows) (all_weaker HasId _ (λ s other. id_turned r s is other) (filter keep rows) all)
    ∙ filters_turned (has_rowid (id_of r)) keep rows ∙ ap (filter keep) alone))
    ∙ one_or_none (keep r) r

pub taken : (keep : Row → Bool) (rows to : List Row) → AllByRecursion HasId rows → ((id : ℤ) → length (filter (has_rowid id) rows) ≤ 1) → IsPermutation (filter keep rows) to
    → without_all rows (map id_of to) ≡ filter (λ r. not (keep r)) rows
taken keep rows to ids single moved =
    without_ids rows (map id_of to)
    ∙ filter_same _ (λ r. not (keep r)) rows (all_both (Has rows) HasId _ (λ r has is. ap not (is_among keep rows to ids single moved r has is)) rows (each_has rows) ids)

-- ---- one entry

abbrev entry_tests : List Term
entry_tests = is_param 1 0 ∷ is_param 2 1 ∷ []

pub deletes_entry : (old new : State) (h : List ℕ) (i : ℕ) (count : ℕ) → IsWhole old.now → Executes delete_entry (Blob h ∷ Int (pos i) ∷ []) old new (Ok count)
    → (new.now.schema ≡ layout) × (new.now.trees 2 ≡ filter (λ r. not (has_place (place h i) r)) (old.now.trees 2)) × (new.now.trees 0 ≡ old.now.trees 0) × (new.now.trees 4 ≡ old.now.trees 4)
unfolding same_name joined
deletes_entry old new h i count whole ran =
    let params = Blob h ∷ Int (pos i) ∷ [] in
    let db = old.now.trees in
    let command = Delete 1 (record { lets = []; body = rows_where 2 (is_param 1 0 ∷ is_param 2 1 ∷ []) (col 1 0 ∷ []) }) in
    let w = runs_as delete_entry params old new layout whole.layout command delete_entry_is plain.6 count ran in
    let text = statement_of delete_entry (understood layout delete_entry) in
    let done = went (subst (λ s. Does old.step_limit (mode_of old) params (record old.now { schema = s }) text None command (Ok (w.tally, new.now))) whole.layout w.changed) in
    let now = ap (λ (p : Tally × Database). p.1) (same_value (went (went done.2).2).2) in
    let queried = went done.1 in
    let written = went queried.2 in
    let trees : done.0.trees ≡ written.0 = ap (λ (it : Written). it.trees) (same_value written.2) in
    let all : new.now.trees ≡ written.0 = ap (λ (d : Database). d.trees) now ∙ trees in
    let l = listed 2 (is_param 1 0 ∷ is_param 2 1 ∷ []) (col 1 0 ∷ []) [] db params queried.0 refl queried.1.answer in
    let ids : ids_of queried.0 ≡ map id_of l.to = ap ids_of l.shown ∙ map-map _ _ _ in
    let made = one_step layout (mode_of old).keys db written.0 (edit_of db entries (ids_of queried.0) Given 0 []) refl written.1 in
    let gone : written.0 2 ≡ filter (λ r. not (keeps params entry_tests r)) (db 2) = made.rows ∙ ap (without_all (db 2)) ids
    ∙ taken (keeps params entry_tests) (db 2) l.to (all_weaker IsEntryRow HasId (λ r is. is.id) (db 2) whole.kept.entries) whole.kept.entry_ids l.moved in
    let same : filter (λ r. not (keeps params entry_tests r)) (db 2) ≡ filter (λ r. not (has_place (place h i) r)) (db 2) =
    filter_same _ _ (db 2) (all_weaker IsEntryRow _ (λ r is. ap not (tests_place h i r is)) (db 2) whole.kept.entries) in
    (ap (λ (d : Database). d.schema) now, ap (λ (t : Trees). t 2) all ∙ gone ∙ same, ap (λ (t : Trees). t 0) all ∙ made.others 0 (λ e. omega (arith, e)) (no_index 0 (inl refl)), ap (λ (t : Trees). t 4) all ∙ made.others 4 (λ e. omega (arith, e)) (no_index 4 (inr (inr refl))))

turn : (a b : Bool) (x : Option Value) → a ≡ b → cond (not a) x None ≡ cond b None x
turn true b x e = ap (λ c. cond c None x) e
turn false b x e = ap (λ c. cond c None x) e

pub without_entry : (db next : Trees) (p : Place) → AreKept db → next 2 ≡ filter (λ r. not (has_place p r)) (db 2) → next 0 ≡ db 0
    → AreKept next × (table_in next ≡ record (table_in db) { values = map.remove (table_in db).values p })
without_entry db next p kept gone same =
    let keep : Row → Bool = λ r. not (has_place p r) in
    let fewer = λ (test : Row → Bool). times-filter test keep (db 2) in
    let values : map.from_entries (map entry_in (filter (λ r. not (has_place p r)) (db 2))) ≡ map.remove (map.from_entries (map entry_in (db 2))) p = map.same_map place_total place_antisymmetric _ _ (λ q.
    map.get-from_entries place_total _ q
    ∙ found_kept place_total place_in value_in keep (λ k. not (same_place p k)) q (λ x e. ap (λ (y : Place). not (same_place p y)) (sym (place_antisymmetric q x e))) (db 2) (all_of _ (λ r. refl) (db 2))
    ∙ turn (same_place p q) (eq_by_cmp place_cmp q p) _ ((eq_by_cmp_equiv place_total).symm p q)
    ∙ sym (map.get-remove place_total (map.from_entries (map entry_in (db 2))) p q ∙ ap (cond (eq_by_cmp place_cmp q p) None) (map.get-from_entries place_total (map entry_in (db 2)) q))) in (
      record {
        handles = subst (AllByRecursion IsHandleRow) (sym same) kept.handles;
        entries = subst (AllByRecursion IsEntryRow) (sym gone) (all-filter IsEntryRow keep (db 2) kept.entries);
        names = subst (λ rows. (h : List ℕ) → length (filter (has_handle h) rows) ≤ 1) (sym same) kept.names;
        places = subst (λ rows. (q : Place) → length (filter (has_place q) rows) ≤ 1) (sym gone) (λ q. let n = times-filter (has_place q) keep (db 2) in omega (arith, n, kept.places q));
        handle_ids = subst (λ rows. (id : ℤ) → length (filter (has_rowid id) rows) ≤ 1) (sym same) kept.handle_ids;
        entry_ids = subst (λ rows. (id : ℤ) → length (filter (has_rowid id) rows) ≤ 1) (sym gone) (λ id. let n = times-filter (has_rowid id) keep (db 2) in omega (arith, n, kept.entry_ids id));
      },
      (λ i. record { handles = set.from_list (map handle_in (same i)); values = (ap (λ rows. map.from_entries (map entry_in rows)) gone ∙ values) i }),
    )

pub drops_entry : (old new : State) (h : List ℕ) (i : ℕ) (count : ℕ) → IsInside old → ExecutesInside 0 delete_entry (Blob h ∷ Int (pos i) ∷ []) old new (Ok count)
    → IsDraft new (record (draft_table old) { values = map.remove (draft_table old).values (place h i) })
drops_entry old new h i count inside ran =
    let did = deletes_entry old new h i count inside.whole ran.0 in
    let made = without_entry old.now.trees new.now.trees (place h i) inside.whole.kept did.1 did.2 in
    (ran.1.is_open, record { whole = record { layout = did.0; kept = made.0 }; inside = ran.1.mode }, made.1)

pub delete_beside : (old new : State) (h : List ℕ) (i : ℕ) (count : ℕ) → IsInside old → ExecutesInside 0 delete_entry (Blob h ∷ Int (pos i) ∷ []) old new (Ok count) → new.now.trees 4 ≡ old.now.trees 4
delete_beside old new h i count inside ran = (deletes_entry old new h i count inside.whole ran.0).3

-- ---- one after the other

pub drop_more : (t next : Table) (h : List ℕ) (is : List ℕ) (n i : ℕ) → i ≡ get_or is n i → n < length is → next ≡ record t { values = map.remove t.values (place h i) }
    → without_values next h (drop (n + 1) is) ≡ without_values t h (drop n is)
drop_more t next h is n i at low gone =
    let split : drop n is ≡ i ∷ drop (n + 1) is = rw (add-one, drop-cons is n i) (ap (λ x. x ∷ drop (suc n) is) (sym at)) in
    ap (λ x. without_values x h (drop (n + 1) is)) gone ∙ ap (without_values t h) (sym split)

pub drop_next : (t next : Table) (h : List ℕ) (is : List ℕ) (n : ℕ) → n < length is → next ≡ record t { values = map.remove t.values (place h (get_or is n 0)) } → without_values next h (drop (n + 1) is) ≡ without_values t h (drop n is)
drop_next t next h is n low gone = drop_more t next h is n (get_or is n 0) (get_or_default is n 0 (get_or is n 0) low) low gone
