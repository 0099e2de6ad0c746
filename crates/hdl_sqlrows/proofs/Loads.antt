-- What the rows that are read one at a time make of a table in memory.
use Rattle.std.proofs.Common.{◌≡◌, ◌≤◌, ◌<◌, ℕ, pos, List, [], ◌∷◌, ◌++◌, map, filter, length, append-nil, if◌then◌else◌, ◌==◌, not, Bool, true, false, ◌||◌, Option, None, Some, IfSome, refl, sym, ap, subst, ◌∙◌, arith, is_eq}
use Rattle.std.specs.FinMap as map
use Rattle.std.specs.FinSet as set
use Rattle.std.specs.List.{AllByRecursion}
use Rattle.std.specs.List.Sorted.{IsPermutation}
use Rattle.std.specs.Ordering.{int_cmp}
use Rattle.std.proofs.lemmas.List.{length-map, map-append}
use Rattle.std.proofs.lemmas.List.Sorted.{length_permutation, IsPermutation-sym}
use Rattle.std.proofs.lemmas.Bool.Decides.{nat_tests}
use Rattle.sqlite_value.specs.declared.value.Value.TheVariants.{Int}
use Rattle.sqlite_value.specs.Order.{Row, column, value_cmp}
use Rattle.sqlite_value.proofs.OrderLemmas.{value_cmp-Int}
use Rattle.sqlite_trees.specs.Tree.{Trees, rowid, has_rowid}
use Rattle.sqlite_trees.proofs.ListLemmas.{map-map, filter-map, IsPermutation-filter, filter_all, all_of, all_weaker, all-append, all_from_map, all-permutation}
use Rattle.sqlite_rules.specs.Edit.{is_taken}
use Rattle.sqlite.specs.State.{State, Shown}
use Rattle.sqlite.proofs.Callers.{reads_as}
use Rattle.hdl_value.specs.Place.{handle_cmp, place_cmp}
use Rattle.hdl_value.proofs.Places.{handle_total, handle_antisymmetric, place_total, place_antisymmetric}
use Rattle.hdl_rows.specs.Table.{Table, no_rows, has, at, with_new_handle, with_values}
use Rattle.hdl_sqlrows.specs.Layout.{layout}
use Rattle.hdl_sqlrows.specs.Stored.{AreSingle, IsHandleRow, IsEntryRow, handle_in, place_in, entry_in, value_in, has_handle, has_place}
use Rattle.hdl_sqlrows.specs.Loaded.{IsLoaded, handles_alone, entry_shown}
use Rattle.hdl_sqlrows.proofs.Answered.{some_pass}
use Rattle.hdl_sqlrows.proofs.Found.{found_moved}
use Rattle.hdl_sqlrows.proofs.Inserts.{Adds}
use Rattle.hdl_sqlrows.proofs.Listed.{keeps, listed}
use Rattle.hdl_sqlrows.proofs.Lists.{HasOneMore}
use Rattle.hdl_sqlrows.proofs.LoadTexts.{load_handles, load_entries, load_handles_is, load_entries_is, load_plain, load_unlisted, whole_handle, whole_entry}
use Rattle.hdl_sqlrows.proofs.Puts.{any_of, with_handle_row, with_entry_row}

-- the rows of both tables as they were read
abbrev pub as_read : List Row → List Row → Trees
as_read handles entries t = if t == 0 then handles else entries

-- ---- rowids that rise

-- the rowids go up to the last
abbrev pub GoUpTo : Option ℕ → List Row → Type 0
GoUpTo None rows = rows ≡ []
GoUpTo (Some last) rows = AllByRecursion (λ r. (n : ℕ) × (rowid r ≡ Int (pos n)) × (n ≤ last)) rows

apart : (m n : ℕ) → m < n → is_eq (int_cmp (pos m) (pos n)) ≡ false
apart m n h = grind (arith, nat_tests)

-- none of the rows has a rowid above the last
none_taken : (last n : ℕ) (row : Row) (rows : List Row) → rowid row ≡ Int (pos n) → last < n → GoUpTo (Some last) rows → is_taken rows row ≡ false
none_taken last n row [] is low all = refl
none_taken last n row (r ∷ rows) is low all =
    let m = all.0.0 in
    let below : m < n = omega (arith, low, all.0.2) in
    (λ i. is_eq (value_cmp (all.0.1 i) (is i)) || is_taken rows row)
    ∙ ap (λ b. b || is_taken rows row) (ap is_eq (value_cmp-Int (pos m) (pos n)) ∙ apart m n below)
    ∙ none_taken last n row rows is low all.1

fresh_above : (last : Option ℕ) (n : ℕ) (row : Row) (rows : List Row) → rowid row ≡ Int (pos n) → IfSome last (λ before. before < n) → GoUpTo last rows → is_taken rows row ≡ false
fresh_above None n row rows is low none = ap (λ rs. is_taken rs row) none
fresh_above (Some last) n row rows is low all = none_taken last n row rows is low all

up_to_more : (last : Option ℕ) (n : ℕ) (row : Row) (rows : List Row) → rowid row ≡ Int (pos n) → IfSome last (λ before. before < n) → GoUpTo last rows → GoUpTo (Some n) (rows ++ row ∷ [])
up_to_more None n row rows is low none = subst (λ rs. GoUpTo (Some n) (rs ++ row ∷ [])) (sym none) ((n, is, omega arith), tt)
up_to_more (Some last) n row rows is low all =
    all-append _ rows (row ∷ []) (all_weaker _ (λ r. (m : ℕ) × (rowid r ≡ Int (pos m)) × (m ≤ n)) (λ r h. (h.0, h.1, omega (arith, h.2, low))) rows all) ((n, is, omega arith), tt)

one_more : (row : Row) (rows : List Row) → HasOneMore row rows (rows ++ row ∷ [])
one_more row rows = record { before = rows; behind = []; was = sym (append-nil rows); is = refl }

-- a row that was read behind these, whose rowid is above theirs
adds : (last : Option ℕ) (n : ℕ) (row : Row) (rows : List Row) → rowid row ≡ Int (pos n) → IfSome last (λ before. before < n) → GoUpTo last rows → Adds row rows (rows ++ row ∷ [])
adds last n row rows is low all = (fresh_above last n row rows is low all, one_more row rows)

-- ---- a handle more

-- these rows of `handles` stand in the table, and no value
pub record HandlesTaken (all : List Row) (last : Option ℕ) (t : Table) : Type 0 where
  pub loaded : IsLoaded (as_read all []) t
  pub rising : GoUpTo last all

-- no row is read yet
pub nothing_taken : (t : Table) → t ≡ no_rows → HandlesTaken [] None t
nothing_taken t is = record {
  loaded = record {
    kept = record { handles = tt; entries = tt; names = λ _. omega arith; places = λ _. omega arith; handle_ids = λ _. omega arith; entry_ids = λ _. omega arith };
    table = is;
  };
  rising = refl;
}

pub handle_taken : (all : List Row) (last : Option ℕ) (t next : Table) (row : Row) (n : ℕ) → HandlesTaken all last t → IsHandleRow row → rowid row ≡ Int (pos n) → IfSome last (λ before. before < n)
    → has t (handle_in row) ≡ false → next ≡ with_new_handle t (handle_in row) [] → HandlesTaken (all ++ row ∷ []) (Some n) next
handle_taken all last t next row n taken is id low absent put =
    let read = taken.loaded in
    let more = with_handle_row (as_read all []) (as_read (all ++ row ∷ []) []) row read.kept is (adds last n row all id low taken.rising) refl (ap (λ (u : Table). has u (handle_in row)) (sym read.table) ∙ absent) in
    record {
      loaded = record { kept = more.0; table = put ∙ ap (λ (u : Table). with_new_handle u (handle_in row) []) read.table ∙ sym more.1 };
      rising = up_to_more last n row all id low taken.rising;
    }

-- ---- a value more

-- these rows of `entries`, as they were shown, stand in the table behind those handles
pub record EntriesTaken (handles all : List Row) (last : Option ℕ) (t : Table) : Type 0 where
  pub loaded : IsLoaded (as_read handles (map entry_shown all)) t
  pub rising : GoUpTo last (map entry_shown all)

-- no row of `entries` is read yet
pub no_entry_taken : (db : Trees) (t : Table) → IsLoaded (handles_alone db) t → EntriesTaken (db 0) [] None t
no_entry_taken db t read =
    let kept = read.kept in
    record {
      loaded = record {
        kept = record { handles = kept.handles; entries = kept.entries; names = kept.names; places = kept.places; handle_ids = kept.handle_ids; entry_ids = kept.entry_ids };
        table = read.table;
      };
      rising = refl;
    }

pub entry_taken : (handles all : List Row) (last : Option ℕ) (t next : Table) (r : Row) (n : ℕ) → EntriesTaken handles all last t → IsEntryRow (entry_shown r) → column r 8 ≡ Int (pos n) → IfSome last (λ before. before < n)
    → at t (place_in (entry_shown r)) ≡ None → next ≡ with_values t (handle_in (entry_shown r)) (value_in (entry_shown r) ∷ []) → EntriesTaken handles (all ++ r ∷ []) (Some n) next
entry_taken handles all last t next r n taken is id low absent put =
    let read = taken.loaded in
    let shown = map entry_shown all in
    let it = entry_shown r in
    let split : map entry_shown (all ++ r ∷ []) ≡ map entry_shown all ++ entry_shown r ∷ [] = map-append entry_shown all (r ∷ []) in
    let more = with_entry_row (as_read handles shown) (as_read handles (shown ++ it ∷ [])) it read.kept is (adds last n it shown id low taken.rising) refl (ap (λ (u : Table). at u (place_in it)) (sym read.table) ∙ absent) in
    record {
      loaded = subst (λ rows. IsLoaded (as_read handles rows) next) (sym split) (record { kept = more.0; table = put ∙ ap (λ (u : Table). with_values u (handle_in it) (value_in it ∷ [])) read.table ∙ sym more.1 });
      rising = subst (GoUpTo (Some n)) (sym split) (up_to_more last n it shown id low taken.rising);
    }

-- ---- in any order

-- where a test of shown rows is that of the rows, one passes for each key at most in both
single_back : {K : Type 0} (test : K → Row → Bool) (show : Row → Row) (rows to : List Row) → ((k : K) (r : Row) → test k (show r) ≡ test k r) → IsPermutation rows to → AreSingle test (map show to) → AreSingle test rows
single_back test show rows to same moved single k =
    let count : length (filter (test k) to) ≡ length (filter (test k) rows) = length_permutation _ _ (IsPermutation-filter (test k) rows to moved) in
    let shown : length (filter (test k) (map show to)) ≡ length (filter (λ r. test k (show r)) to) = ap length (filter-map (test k) show to) ∙ length-map _ show in
    let alike : length (filter (λ r. test k (show r)) to) ≡ length (filter (test k) to) = ap (λ p. length (filter p to)) (λ i r. same k r i) in
    omega (arith, count, shown, alike, single k)

all_back : (P : Row → Type 0) (show : Row → Row) (rows to : List Row) → ((r : Row) → P (show r) → P r) → IsPermutation rows to → AllByRecursion P (map show to) → AllByRecursion P rows
all_back P show rows to back moved all = all-permutation P to rows (IsPermutation-sym rows to moved) (all_weaker _ P back to (all_from_map P show to all))

same_handles : (rows to : List Row) → IsPermutation rows to → set.from_list {R = handle_cmp} (map handle_in rows) ≡ set.from_list (map handle_in to)
same_handles rows to moved = set.same_set handle_total handle_antisymmetric _ _ (λ h.
    let count : length (filter (has_handle h) to) ≡ length (filter (has_handle h) rows) = length_permutation _ _ (IsPermutation-filter (has_handle h) rows to moved) in
    contained h rows ∙ ap (λ n. not (n == 0)) (sym count) ∙ sym (contained h to))
  where
    contained : (h : List ℕ) (rs : List Row) → set.contains (set.from_list {R = handle_cmp} (map handle_in rs)) h ≡ not (length (filter (has_handle h) rs) == 0)
    contained h rs = set.contains-from_list handle_total (map handle_in rs) h ∙ any_of h rs ∙ some_pass (has_handle h) rs

same_entries : (rows to : List Row) → AreSingle has_place rows → IsPermutation rows to → map.from_entries {R = place_cmp} (map entry_in rows) ≡ map.from_entries (map entry_in to)
same_entries rows to single moved = map.same_map place_total place_antisymmetric _ _ (λ p.
    map.get-from_entries place_total (map entry_in rows) p ∙ found_moved place_total place_in value_in p rows to moved (single p) ∙ sym (map.get-from_entries place_total (map entry_in to) p))

-- a row of `handles` as it is shown
abbrev handle_cells : Row → Row
handle_cells r = column r 0 ∷ column r 1 ∷ column r 2 ∷ []

-- a row of `entries` as it is shown
abbrev entry_cells : Row → Row
entry_cells r = column r 2 ∷ column r 3 ∷ column r 4 ∷ column r 5 ∷ column r 6 ∷ column r 7 ∷ column r 8 ∷ column r 1 ∷ column r 0 ∷ []

-- where all rows of `handles` were read, the table is theirs
all_handles : (db : Trees) (to : List Row) (t : Table) → IsPermutation (db 0) to → IsLoaded (as_read (map handle_cells to) []) t → IsLoaded (handles_alone db) t
all_handles db to t moved read =
    let kept = read.kept in
    record {
      kept = record {
        handles = all_back IsHandleRow handle_cells (db 0) to (λ r is. record { id = is.id; name = is.name; authority = is.authority }) moved kept.handles;
        entries = tt;
        names = single_back has_handle handle_cells (db 0) to (λ k r. refl) moved kept.names;
        places = λ _. omega arith;
        handle_ids = single_back has_rowid handle_cells (db 0) to (λ k r. refl) moved kept.handle_ids;
        entry_ids = λ _. omega arith;
      };
      table = read.table ∙ (λ i. record { handles = set.from_list (map-map handle_in handle_cells to i); values = map.empty }) ∙ sym (λ i. record { handles = same_handles (db 0) to moved i; values = map.empty });
    }

-- where all rows of `entries` were read behind those of `handles`, the table is that of both
all_entries : (db : Trees) (to : List Row) (t : Table) → IsPermutation (db 2) to → IsLoaded (as_read (db 0) (map entry_shown (map entry_cells to))) t → IsLoaded db t
all_entries db to t moved read =
    let whole : Row → Row = λ r. entry_shown (entry_cells r) in
    let same : map entry_shown (map entry_cells to) ≡ map (λ r. entry_shown (entry_cells r)) to = map-map entry_shown entry_cells to in
    let it : IsLoaded (as_read (db 0) (map (λ r. entry_shown (entry_cells r)) to)) t = subst (λ rows. IsLoaded (as_read (db 0) rows) t) same read in
    let kept = it.kept in
    let places : AreSingle has_place (db 2) = single_back has_place whole (db 2) to (λ k r. refl) moved kept.places in
    record {
      kept = record {
        handles = kept.handles;
        entries = all_back IsEntryRow whole (db 2) to (λ r is. record { id = is.id; name = is.name; index = is.index }) moved kept.entries;
        names = kept.names;
        places = places;
        handle_ids = kept.handle_ids;
        entry_ids = single_back has_rowid whole (db 2) to (λ k r. refl) moved kept.entry_ids;
      };
      table = it.table ∙ (λ i. record { handles = set.from_list (map handle_in (db 0)); values = map.from_entries (map-map entry_in whole to i) }) ∙ sym (λ i. record { handles = set.from_list (map handle_in (db 0)); values = same_entries (db 2) to places moved i });
    }

-- ---- by their texts

none_left_out : (rows : List Row) → filter (keeps [] []) rows ≡ rows
none_left_out rows = filter_all (λ r. true) rows (all_of _ (λ r. refl) rows)

-- the handles of a whole answer
pub handles_shown : (old new : State) (rows : List Row) (last : Option ℕ) (t : Table) → old.now.schema ≡ layout → Shown load_handles [] old new rows → HandlesTaken rows last t → IsLoaded (handles_alone old.now.trees) t
handles_shown old new rows last t is shown taken =
    let db = old.now.trees in
    let got = reads_as load_handles [] old new layout is _ load_handles_is load_plain.0 load_unlisted.0 rows shown in
    let l = listed 0 [] whole_handle [] db [] rows refl got.answer in
    all_handles db l.to t (subst (λ rs. IsPermutation rs l.to) (none_left_out (db 0)) l.moved) (subst (λ rs. IsLoaded (as_read rs []) t) l.shown taken.loaded)

-- the values of a whole answer
pub entries_shown : (old new : State) (rows : List Row) (last : Option ℕ) (t : Table) → old.now.schema ≡ layout → Shown load_entries [] old new rows → EntriesTaken (old.now.trees 0) rows last t → IsLoaded old.now.trees t
entries_shown old new rows last t is shown taken =
    let db = old.now.trees in
    let got = reads_as load_entries [] old new layout is _ load_entries_is load_plain.1 load_unlisted.1 rows shown in
    let l = listed 2 [] whole_entry [] db [] rows refl got.answer in
    all_entries db l.to t (subst (λ rs. IsPermutation rs l.to) (none_left_out (db 2)) l.moved) (subst (λ rs. IsLoaded (as_read (db 0) (map entry_shown rs)) t) l.shown taken.loaded)
