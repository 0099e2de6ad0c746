-- What the INSERTs leave in the other tables, and what a note of a handle makes.
use Rattle.std.proofs.Common.{◌≡◌, ℕ, ◌≤◌, ℤ, List, [], ◌∷◌, map, filter, length, Ok, IsTrue, refl, sym, subst}
use Rattle.std.specs.FinMap as map
use Rattle.std.specs.FinSet as set
use Rattle.std.specs.List.{AllByRecursion}
use Rattle.sqlite_value.specs.declared.value.Value.TheVariants.{Blob}
use Rattle.sqlite_trees.specs.Tree.{Trees, has_rowid}
use Rattle.sqlite.specs.State.{State, ExecutesInside}
use Rattle.hdl_name.specs.Name.{authority}
use Rattle.hdl_value.specs.declared.value.Value.{Value}
use Rattle.hdl_value.proofs.Places.{handle_total, handle_antisymmetric}
use Rattle.hdl_sqlrows.specs.Stored.{IsInside, AreKept, IsHandleRow, IsEntryRow, handle_in, entry_in, has_handle, has_place}
use Rattle.hdl_sqlrows.specs.Opening.{Base, base_in, IsOpenedRow}
use Rattle.hdl_sqlrows.proofs.Texts.{insert_handle, insert_entry, insert_opened}
use Rattle.hdl_sqlrows.proofs.Lists.{all_put, map_put, set_of_more}
use Rattle.hdl_sqlrows.proofs.Inserts.{inserts_handle, inserts_entry, inserts_opened, entry_cells, opened_row}

pub handle_beside : (old new : State) (name : List ℕ) (count : ℕ) → IsInside old → ExecutesInside 0 insert_handle (Blob name ∷ Blob (authority name) ∷ []) old new (Ok count) → new.now.trees 4 ≡ old.now.trees 4
handle_beside old new name count inside ran = (inserts_handle old new name (authority name) count inside.whole.layout ran.0).3

pub entry_beside : (old new : State) (name : List ℕ) (v : Value) (count : ℕ) → IsInside old → ExecutesInside 0 insert_entry (entry_cells name v) old new (Ok count) → new.now.trees 4 ≡ old.now.trees 4
entry_beside old new name v count inside ran = (inserts_entry old new name v count inside.whole.layout ran.0).3

same_kept : (db next : Trees) → next 0 ≡ db 0 → next 2 ≡ db 2 → AreKept db → AreKept next
same_kept db next first last kept = record {
  handles = subst (AllByRecursion IsHandleRow) (sym first) kept.handles;
  entries = subst (AllByRecursion IsEntryRow) (sym last) kept.entries;
  names = subst (λ rows. (h : List ℕ) → length (filter (has_handle h) rows) ≤ 1) (sym first) kept.names;
  places = subst (λ rows. (p : _) → length (filter (has_place p) rows) ≤ 1) (sym last) kept.places;
  handle_ids = subst (λ rows. (id : ℤ) → length (filter (has_rowid id) rows) ≤ 1) (sym first) kept.handle_ids;
  entry_ids = subst (λ rows. (id : ℤ) → length (filter (has_rowid id) rows) ≤ 1) (sym last) kept.entry_ids;
}

abbrev pub WithOpened : Trees → List ℕ → Base
WithOpened db name = record (base_in db) { opened = set.insert (base_in db).opened name }

pub notes_opened : (old new : State) (name : List ℕ) (count : ℕ) → IsInside old → ExecutesInside 0 insert_opened (Blob name ∷ []) old new (Ok count)
    → IsTrue new.is_open × IsInside new × (base_in new.now.trees ≡ WithOpened old.now.trees name) × (AllByRecursion IsOpenedRow (old.now.trees 4) → AllByRecursion IsOpenedRow (new.now.trees 4))
notes_opened old new name count inside ran =
    let did = inserts_opened old new name count inside.whole.layout ran.0 in
    let more = did.1.1 in
    let opened = set_of_more handle_total handle_antisymmetric (map handle_in (old.now.trees 4)) (map handle_in (new.now.trees 4)) name (map_put handle_in _ _ _ more) in (
      ran.1.is_open,
      record { whole = record { layout = did.0; kept = same_kept old.now.trees new.now.trees did.2 did.3 inside.whole.kept }; inside = ran.1.mode },
      (λ i. record { table = record { handles = set.from_list (map handle_in (did.2 i)); values = map.from_entries (map entry_in (did.3 i)) }; opened = opened i }),
      (λ all. all_put IsOpenedRow (opened_row (old.now.trees 4) name) _ _ more all refl),
    )
