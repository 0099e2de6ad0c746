-- What the two INSERTs make of the table.
use Rattle.std.proofs.Common.{true≢false, ◌≡◌, ◌≢◌, ℕ, suc, ◌+◌, ◌<◌, ◌^◌, ◌≤◌, ℤ, List, [], ◌∷◌, map, filter, drop, length, get_or, add-one, drop-cons, Bool, true, false, cond, ◌||◌, None, Some, Ok, refl, sym, ap, subst, ◌∙◌, arith, is_eq}
use Rattle.std.specs.FinMap as map
use Rattle.std.specs.FinSet as set
use Rattle.std.specs.List.{AllByRecursion, list_any}
use Rattle.std.specs.Ordering.{eq_by_cmp, int_eq}
use Rattle.std.proofs.lemmas.Bool.Decides.{nat_tests}
use Rattle.sqlite_value.specs.declared.value.Value.TheVariants.{Int, Blob}
use Rattle.sqlite_value.specs.Order.{Row, value_cmp}
use Rattle.sqlite_value.proofs.OrderLemmas.{value_cmp-Int}
use Rattle.sqlite_trees.specs.Tree.{Trees, rowid, has_rowid}
use Rattle.sqlite_rules.specs.Edit.{id_in, is_taken, next_rowid}
use Rattle.sqlite.specs.State.{State, ExecutesInside}
use Rattle.hdl_name.specs.Name.{authority}
use Rattle.hdl_value.specs.Place.{Place, place_cmp, same_handle}
use Rattle.hdl_value.specs.declared.value.Value.{Value}
use Rattle.hdl_value.proofs.Places.{handle_total, handle_antisymmetric, place_total, place_antisymmetric, handles_equal, places_equal}
use Rattle.hdl_rows.specs.Table.{Table, place, has, at, indexes, AreDistinct, AreAbsent, with_values, with_new_handle}
use Rattle.hdl_rows.proofs.Writes.{at_place, indexes_apart, some_none}
use Rattle.hdl_sqlrows.specs.Stored.{IsInside, AreKept, IsEntryRow, IsHandleRow, handle_in, place_in, entry_in, value_in, table_in, has_handle, has_place}
use Rattle.hdl_sqlrows.specs.Filed.{IsDraft, draft_table}
use Rattle.hdl_sqlrows.specs.Shows.{AreShort}
use Rattle.hdl_sqlrows.proofs.Found.{found_first, first_value}
use Rattle.hdl_sqlrows.proofs.Texts.{insert_handle, insert_entry}
use Rattle.hdl_sqlrows.proofs.Lists.{all_put, map_put, map_of_more, set_of_more, single_put}
use Rattle.hdl_sqlrows.proofs.Inserts.{Adds, inserts_handle, inserts_entry, handle_row, entry_row, entry_cells}
use Rattle.hdl_sqlrows.proofs.Spelt.{refs_again, stamp_again}

-- ---- no row of a key

none_any : {X : Type 0} (p : X → Bool) (xs : List X) → list_any p xs ≡ false → length (filter p xs) ≡ 0
none_any p [] none = refl
none_any p (x ∷ xs) none = by_test (p x) none (none_any p xs)
  where
    by_test : (b : Bool) → (b || list_any p xs) ≡ false → (list_any p xs ≡ false → length (filter p xs) ≡ 0) → length (cond b (x ∷ filter p xs) (filter p xs)) ≡ 0
    by_test true none rest = absurd (true≢false none)
    by_test false none rest = rest none

no_first : (rows : List Row) → first_value place_total place_in value_in rows ≡ None → length rows ≡ 0
no_first [] none = refl
no_first (r ∷ rows) none = absurd (some_none (value_in r) none)

-- an absent place has no row
no_place : (db : Trees) (p : Place) → at (table_in db) p ≡ None → length (filter (has_place p) (db 2)) ≡ 0
no_place db p none = no_first _ (sym (found_first place_total place_in value_in p (db 2)) ∙ sym (map.get-from_entries place_total (map entry_in (db 2)) p) ∙ none)

pub any_of : (h : List ℕ) (rows : List Row) → list_any (same_handle h) (map handle_in rows) ≡ list_any (has_handle h) rows
any_of h [] = refl
any_of h (r ∷ rows) = ap (λ b. same_handle h (handle_in r) || b) (any_of h rows)

no_handle : (db : Trees) (h : List ℕ) → has (table_in db) h ≡ false → length (filter (has_handle h) (db 0)) ≡ 0
no_handle db h none = none_any (has_handle h) (db 0) (sym (any_of h (db 0)) ∙ sym (set.contains-from_list handle_total (map handle_in (db 0)) h) ∙ none)

same_id : (m n : ℤ) → is_eq (value_cmp (Int m) (Int n)) ≡ true → m ≡ n
same_id m n e = int_test m n (sym (ap is_eq (value_cmp-Int m n)) ∙ e)
  where
    int_test : (m n : ℤ) → int_eq m n ≡ true → m ≡ n
    int_test m n e = grind (arith, nat_tests)

-- a new rowid has no row
no_rowid : (rows : List Row) (row : Row) (n : ℤ) → rowid row ≡ Int n → is_taken rows row ≡ false → (id : ℤ) → has_rowid id row ≡ true → length (filter (has_rowid id) rows) ≡ 0
no_rowid rows row n is fresh id here =
    let same : n ≡ id = same_id n id (ap (λ v. is_eq (value_cmp v (Int id))) (sym is) ∙ here) in
    none_any (has_rowid id) rows (ap (λ (v : _). list_any (λ r. is_eq (value_cmp (rowid r) v)) rows) (ap Int (sym same) ∙ sym is) ∙ fresh)

-- a row more of `handles`
pub with_handle_row : (db next : Trees) (row : Row) → AreKept db → IsHandleRow row → Adds row (db 0) (next 0) → next 2 ≡ db 2 → has (table_in db) (handle_in row) ≡ false
    → AreKept next × (table_in next ≡ record (table_in db) { handles = set.insert (table_in db).handles (handle_in row) })
with_handle_row db next row kept is more same absent =
    let handles = set_of_more handle_total handle_antisymmetric (map handle_in (db 0)) (map handle_in (next 0)) (handle_in row) (map_put handle_in _ _ _ more.1) in (
      record {
        handles = all_put IsHandleRow _ _ _ more.1 kept.handles is;
        entries = subst (AllByRecursion IsEntryRow) (sym same) kept.entries;
        names = single_put has_handle row (db 0) (next 0) more.1 kept.names (λ h here. no_handle db h (ap (has (table_in db)) (handles_equal h (handle_in row) here) ∙ absent));
        places = subst (λ rows. (p : Place) → length (filter (has_place p) rows) ≤ 1) (sym same) kept.places;
        handle_ids = single_put has_rowid row (db 0) (next 0) more.1 kept.handle_ids (no_rowid (db 0) row (id_in (rowid row)) is.id more.0);
        entry_ids = subst (λ rows. (id : ℤ) → length (filter (has_rowid id) rows) ≤ 1) (sym same) kept.entry_ids;
      },
      (λ i. record { handles = handles i; values = map.from_entries (map entry_in (same i)) }),
    )

with_handle : (db next : Trees) (name : List ℕ) → AreKept db → Adds (handle_row (db 0) name (authority name)) (db 0) (next 0) → next 2 ≡ db 2 → has (table_in db) name ≡ false
    → AreKept next × (table_in next ≡ record (table_in db) { handles = set.insert (table_in db).handles name })
with_handle db next name kept more same absent = with_handle_row db next (handle_row (db 0) name (authority name)) kept (record { id = refl; name = refl; authority = refl }) more same absent

pub puts_handle : (old new : State) (name : List ℕ) (count : ℕ) → IsInside old → has (draft_table old) name ≡ false → ExecutesInside 0 insert_handle (Blob name ∷ Blob (authority name) ∷ []) old new (Ok count)
    → IsDraft new (record (draft_table old) { handles = set.insert (draft_table old).handles name })
puts_handle old new name count inside absent ran =
    let did = inserts_handle old new name (authority name) count inside.whole.layout ran.0 in
    let made = with_handle old.now.trees new.now.trees name inside.whole.kept did.1 did.2 absent in
    (ran.1.is_open, record { whole = record { layout = did.0; kept = made.0 }; inside = ran.1.mode }, made.1)

-- the row of a value says that value
entry_is : (id : ℤ) (name : List ℕ) (v : Value) → v.timestamp < 2 ^ 64 → AreShort v.references → entry_in (entry_row id name v) ≡ (place name v.index, v)
entry_is id name v timestamp short = λ i. (place name v.index, record v { timestamp = stamp_again v.timestamp timestamp i; references = refs_again v.references short i })

-- a row more of `entries`
pub with_entry_row : (db next : Trees) (row : Row) → AreKept db → IsEntryRow row → Adds row (db 2) (next 2) → next 0 ≡ db 0 → at (table_in db) (place_in row) ≡ None
    → AreKept next × (table_in next ≡ record (table_in db) { values = map.insert (table_in db).values (place_in row) (value_in row) })
with_entry_row db next row kept is more same absent =
    let values = map_of_more place_total place_antisymmetric (map entry_in (db 2)) (map entry_in (next 2)) (place_in row) (value_in row) (map_put entry_in _ _ _ more.1) absent in (
      record {
        handles = subst (AllByRecursion IsHandleRow) (sym same) kept.handles;
        entries = all_put IsEntryRow _ _ _ more.1 kept.entries is;
        names = subst (λ rows. (h : List ℕ) → length (filter (has_handle h) rows) ≤ 1) (sym same) kept.names;
        places = single_put has_place row (db 2) (next 2) more.1 kept.places (λ p here. no_place db p (ap (at (table_in db)) (places_equal p (place_in row) here) ∙ absent));
        handle_ids = subst (λ rows. (id : ℤ) → length (filter (has_rowid id) rows) ≤ 1) (sym same) kept.handle_ids;
        entry_ids = single_put has_rowid row (db 2) (next 2) more.1 kept.entry_ids (no_rowid (db 2) row (id_in (rowid row)) is.id more.0);
      },
      (λ i. record { handles = set.from_list (map handle_in (same i)); values = values i }),
    )

pub with_entry : (db next : Trees) (id : ℤ) (name : List ℕ) (v : Value) → AreKept db → v.timestamp < 2 ^ 64 → AreShort v.references → Adds (entry_row id name v) (db 2) (next 2) → next 0 ≡ db 0 → at (table_in db) (place name v.index) ≡ None
    → AreKept next × (table_in next ≡ record (table_in db) { values = map.insert (table_in db).values (place name v.index) v })
with_entry db next id name v kept timestamp short more same absent =
    let made = with_entry_row db next (entry_row id name v) kept (record { id = refl; name = refl; index = refl }) more same absent in
    (made.0, made.1 ∙ (λ i. record (table_in db) { values = map.insert (table_in db).values (entry_is id name v timestamp short i).0 (entry_is id name v timestamp short i).1 }))

pub puts_entry : (old new : State) (name : List ℕ) (v : Value) (count : ℕ) → IsInside old → v.timestamp < 2 ^ 64 → AreShort v.references → at (draft_table old) (place name v.index) ≡ None → ExecutesInside 0 insert_entry (entry_cells name v) old new (Ok count)
    → IsDraft new (record (draft_table old) { values = map.insert (draft_table old).values (place name v.index) v })
puts_entry old new name v count inside timestamp short absent ran =
    let did = inserts_entry old new name v count inside.whole.layout ran.0 in
    let made = with_entry old.now.trees new.now.trees (next_rowid (old.now.trees 2)) name v inside.whole.kept timestamp short did.1 did.2 absent in
    (ran.1.is_open, record { whole = record { layout = did.0; kept = made.0 }; inside = ran.1.mode }, made.1)

-- ---- one after the other

still_absent : (t : Table) (h : List ℕ) (i : ℕ) (v : Value) (is : List ℕ) → AllByRecursion (λ j. i ≢ j) is → AreAbsent t h is → AreAbsent (record t { values = map.insert t.values (place h i) v }) h is
still_absent t h i v [] other absent = tt
still_absent t h i v (j ∷ is) other absent =
    let apart : eq_by_cmp place_cmp (place h j) (place h i) ≡ false = at_place (place h j) h i ∙ ap (λ b. cond (same_handle h h) b false) (indexes_apart j i (λ e. other.0 (sym e))) ∙ either (same_handle h h) in
    (map.get-insert place_total t.values (place h i) v (place h j) ∙ ap (λ b. cond b (Some v) (map.get t.values (place h j))) apart ∙ absent.0, still_absent t h i v is other.1 absent.1)
  where
    either : (b : Bool) → cond b false false ≡ false
    either true = refl
    either false = refl

pub put_next : (t : Table) (h : List ℕ) (v : Value) (vs : List Value) → AreAbsent t h (indexes (v ∷ vs)) → AreDistinct (indexes (v ∷ vs))
    → AreAbsent (record t { values = map.insert t.values (place h v.index) v }) h (indexes vs) × AreDistinct (indexes vs)
put_next t h v vs absent distinct = (still_absent t h v.index v (indexes vs) distinct.0 absent.1, distinct.1)

pub put_more : (t next : Table) (h : List ℕ) (vs : List Value) (i : ℕ) (v : Value) → v ≡ get_or vs i v → i < length vs → AreAbsent t h (indexes (drop i vs)) → AreDistinct (indexes (drop i vs))
    → next ≡ record t { values = map.insert t.values (place h v.index) v }
    → AreAbsent next h (indexes (drop (i + 1) vs)) × AreDistinct (indexes (drop (i + 1) vs)) × (with_values next h (drop (i + 1) vs) ≡ with_values t h (drop i vs))
put_more t next h vs i v is low absent distinct put =
    let split : drop i vs ≡ v ∷ drop (i + 1) vs = rw (add-one, drop-cons vs i v) (ap (λ x. x ∷ drop (suc i) vs) (sym is)) in
    let two = put_next t h v (drop (i + 1) vs) (subst (λ xs. AreAbsent t h (indexes xs)) split absent) (subst (λ xs. AreDistinct (indexes xs)) split distinct) in
    (subst (λ x. AreAbsent x h (indexes (drop (i + 1) vs))) (sym put) two.0, two.1, ap (λ x. with_values x h (drop (i + 1) vs)) put ∙ ap (with_values t h) (sym split))

pub created_is : (t mid next : Table) (h : List ℕ) (vs : List Value) → mid ≡ record t { handles = set.insert t.handles h } → next ≡ with_values mid h vs → next ≡ with_new_handle t h vs
created_is t mid next h vs first second = second ∙ ap (λ m. with_values m h vs) first

pub absent_still : (t mid : Table) (h : List ℕ) (is : List ℕ) → mid ≡ record t { handles = set.insert t.handles h } → AreAbsent t h is → AreAbsent mid h is
absent_still t mid h is first absent = subst (λ (m : Table). AreAbsent m h is) (sym first) (same_values t h is absent)
  where
    same_values : (t : Table) (h : List ℕ) (is : List ℕ) → AreAbsent t h is → AreAbsent (record t { handles = set.insert t.handles h }) h is
    same_values t h [] absent = tt
    same_values t h (i ∷ is) absent = (absent.0, same_values t h is absent.1)
