-- What the UPDATE makes of the table.
use Rattle.std.proofs.Common.{◌≡◌, ◌≢◌, inl, inr, ℕ, suc, ◌+◌, ◌<◌, ◌^◌, ◌≤◌, ℤ, pos, List, [], ◌∷◌, map, filter, drop, length, get_or, add-one, drop-cons, Bool, true, false, cond, not, ◌&&◌, ◌==◌, None, Some, Option, Ok, refl, sym, ap, subst, ◌∙◌, arith}
use Rattle.std.specs.FinMap as map
use Rattle.std.specs.List.{AllByRecursion}
use Rattle.std.specs.Ordering.{eq_by_cmp}
use Rattle.std.proofs.lemmas.Cmp.{eq_by_cmp_equiv}
use Rattle.std.specs.Int.{w64, to_be_bytes}
use Rattle.sqlite_value.specs.declared.value.Value.TheVariants.{Int, Blob}
use Rattle.sqlite_value.specs.Order.{Row, column}
use Rattle.sqlite_value.specs.Keys.{joined}
use Rattle.sqlite_trees.specs.Tree.{Trees, rowid, put_row}
use Rattle.sqlite_trees.proofs.ListLemmas.{filter_same, all-filter, all_weaker}
use Rattle.sqlite_sql.specs.Term.{Term, eval_all}
use Rattle.sqlite_schema.specs.Names.{same_name}
use Rattle.sqlite_schema.specs.declared.command.Command.TheVariants.{Update}
use Rattle.sqlite_rules.specs.declared.error.Rowids.TheVariants.{Given}
use Rattle.sqlite_rules.specs.Calls.{ids_of}
use Rattle.sqlite_rules.specs.Cast.{cast_row}
use Rattle.sqlite_rules.specs.Edit.{edit_of, is_taken, without_all}
use Rattle.sqlite.specs.Effect.{Database}
use Rattle.sqlite.specs.Does.{Tally, Does}
use Rattle.sqlite.specs.Rows.{Written, Edited}
use Rattle.sqlite.specs.Listing.{understood}
use Rattle.sqlite.specs.State.{State, mode_of, Executes, ExecutesInside}
use Rattle.sqlite.proofs.Callers.{runs_as, statement_of, one_step}
use Rattle.hdl_value.specs.Place.{Place, place_cmp}
use Rattle.hdl_value.specs.Spelling.{references}
use Rattle.hdl_value.specs.declared.value.Value.{Value}
use Rattle.hdl_value.proofs.Places.{place_total, place_antisymmetric, places_equal}
use Rattle.hdl_rows.specs.Table.{Table, place, at, indexes, ArePresent, with_values}
use Rattle.hdl_rows.proofs.Writes.{some_none}
use Rattle.hdl_sqlrows.specs.Layout.{layout, entries}
use Rattle.hdl_sqlrows.specs.Stored.{IsWhole, IsInside, AreKept, IsEntryRow, place_in, entry_in, value_in, table_in, has_place}
use Rattle.hdl_sqlrows.specs.Filed.{IsDraft, draft_table}
use Rattle.hdl_sqlrows.specs.Shows.{AreShort}
use Rattle.hdl_sqlrows.proofs.Texts.{update_entry, update_entry_is, update_terms, plain, is_param, rows_where}
use Rattle.hdl_sqlrows.proofs.Found.{short_permutation, found_first, first_value}
use Rattle.hdl_sqlrows.proofs.Listed.{keeps, listed, tests_place}
use Rattle.hdl_sqlrows.proofs.Answered.{all_pass}
use Rattle.hdl_sqlrows.proofs.Lists.{HasOneMore, put_fresh}
use Rattle.hdl_sqlrows.proofs.Inserts.{Adds, cast_int, entry_cells, entry_row, left_fresh}
use Rattle.hdl_sqlrows.proofs.Puts.{with_entry}
use Rattle.hdl_sqlrows.proofs.Gone.{HasId, id_of, taken, without_entry}
use Rattle.hdl_sqlrows.proofs.Parts.{went, same_value, no_index}

-- ---- the one row

-- the one row of the place
pub record HasOne (db : Trees) (p : Place) (r : Row) : Type 0 where
  pub is : IsEntryRow r
  pub same : place_in r ≡ p
  pub all : filter (has_place p) (db 2) ≡ r ∷ []

pub one_row : (db : Trees) (p : Place) → AreKept db → at (table_in db) p ≢ None → (r : Row) × HasOne db p r
one_row db p kept there = by_rows (filter (has_place p) (db 2)) refl (kept.places p)
  where
    by_rows : (rows : List Row) → filter (has_place p) (db 2) ≡ rows → length rows ≤ 1 → (r : Row) × HasOne db p r
    by_rows [] is short = absurd (there (map.get-from_entries place_total (map entry_in (db 2)) p ∙ found_first place_total place_in value_in p (db 2) ∙ ap (first_value place_total place_in value_in) is))
    by_rows (r ∷ []) is short =
        let whole = subst (AllByRecursion IsEntryRow) is (all-filter IsEntryRow (has_place p) (db 2) kept.entries) in
        let passes = subst (AllByRecursion (λ s. has_place p s ≡ true)) is (all_pass (has_place p) (db 2)) in
        (r, record { is = whole.0; same = sym (places_equal p (place_in r) passes.0); all = is })
    by_rows (r ∷ s ∷ rows) is short = absurd (omega (arith, short))

-- ---- the row that replaces it

-- the cells that a row keeps, and those of a value
abbrev source : Row → Value → Row
source r v = rowid r ∷ column r 1 ∷ column r 2 ∷ Blob v.kind ∷ Blob v.bytes ∷ Blob v.ttl ∷ Int (pos v.permissions) ∷ Blob (to_be_bytes w64 v.timestamp) ∷ Blob (references v.references) ∷ []

new_row : (r : Row) (name : List ℕ) (v : Value) → IsEntryRow r → place_in r ≡ place name v.index → cast_row entries (source r v) ≡ entry_row (id_of r) name v
new_row r name v is same =
    (λ k. cast_row entries (is.id k ∷ is.name k ∷ is.index k ∷ Blob v.kind ∷ Blob v.bytes ∷ Blob v.ttl ∷ Int (pos v.permissions) ∷ Blob (to_be_bytes w64 v.timestamp) ∷ Blob (references v.references) ∷ []))
    ∙ (λ k. cast_int (id_of r) k ∷ Blob (place_in r).handle ∷ cast_int (pos (place_in r).index) k ∷ Blob v.kind ∷ Blob v.bytes ∷ Blob v.ttl ∷ cast_int (pos v.permissions) k ∷ Blob (to_be_bytes w64 v.timestamp) ∷ Blob (references v.references) ∷ [])
    ∙ ap (λ (p : Place). Int (id_of r) ∷ Blob p.handle ∷ Int (pos p.index) ∷ Blob v.kind ∷ Blob v.bytes ∷ Blob v.ttl ∷ Int (pos v.permissions) ∷ Blob (to_be_bytes w64 v.timestamp) ∷ Blob (references v.references) ∷ []) same

abbrev entry_tests : List Term
entry_tests = is_param 1 0 ∷ is_param 2 1 ∷ []

pub updates_entry : (old new : State) (name : List ℕ) (v : Value) (count : ℕ) → IsWhole old.now → at (table_in old.now.trees) (place name v.index) ≢ None → Executes update_entry (entry_cells name v) old new (Ok count)
    → (new.now.schema ≡ layout) × ((id : ℤ) × Adds (entry_row id name v) (filter (λ r. not (has_place (place name v.index) r)) (old.now.trees 2)) (new.now.trees 2)) × (new.now.trees 0 ≡ old.now.trees 0) × (new.now.trees 4 ≡ old.now.trees 4)
unfolding same_name joined
updates_entry old new name v count whole there ran =
    let params = entry_cells name v in
    let p = place name v.index in
    let db = old.now.trees in
    let command = Update 1 (record { lets = []; body = rows_where 2 (is_param 1 0 ∷ is_param 2 1 ∷ []) update_terms }) in
    let w = runs_as update_entry params old new layout whole.layout command update_entry_is plain.8 count ran in
    let text = statement_of update_entry (understood layout update_entry) in
    let done = went (subst (λ s. Does old.step_limit (mode_of old) params (record old.now { schema = s }) text None command (Ok (w.tally, new.now))) whole.layout w.changed) in
    let now = ap (λ (q : Tally × Database). q.1) (same_value (went (went done.2).2).2) in
    let queried = went done.1 in
    let written = went queried.2 in
    let trees : done.0.trees ≡ written.0 = ap (λ (it : Written). it.trees) (same_value written.2) in
    let all : new.now.trees ≡ written.0 = ap (λ (d : Database). d.trees) now ∙ trees in
    let l = listed 2 (is_param 1 0 ∷ is_param 2 1 ∷ []) update_terms [] db params queried.0 refl queried.1.answer in
    let one = one_row db p whole.kept there in
    let r = one.0 in
    let tested = all_weaker IsEntryRow (λ s. keeps params entry_tests s ≡ has_place p s) (λ s is. tests_place name v.index s is) (db 2) whole.kept.entries in
    let passing : filter (keeps params entry_tests) (db 2) ≡ r ∷ [] = filter_same (keeps params entry_tests) (has_place p) (db 2) tested ∙ one.1.all in
    let to : l.to ≡ r ∷ [] = sym (short_permutation (filter (keeps params entry_tests) (db 2)) l.to (subst (λ rows. length rows ≤ 1) (sym passing) (omega arith)) l.moved) ∙ passing in
    let shows : queried.0 ≡ (rowid r ∷ source r v) ∷ [] = l.shown ∙ ap (map (λ s. eval_all update_terms (params ∷ s ∷ []))) to in
    let keys = (mode_of old).keys in
    let wrote = subst (λ rows. Edited layout keys db (edit_of db entries (ids_of rows) Given 1 rows) (Ok written.0)) shows written.1 in
    let made = one_step layout keys db written.0 (edit_of db entries (id_of r ∷ []) Given 1 ((rowid r ∷ source r v) ∷ [])) refl wrote in
    let row = new_row r name v one.1.is one.1.same in
    let rest : without_all (db 2) (id_of r ∷ []) ≡ filter (λ s. not (has_place p s)) (db 2) = ap (λ rows. without_all (db 2) (map id_of rows)) (sym to)
    ∙ taken (keeps params entry_tests) (db 2) l.to (all_weaker IsEntryRow HasId (λ s is. is.id) (db 2) whole.kept.entries) whole.kept.entry_ids l.moved
    ∙ filter_same _ _ (db 2) (all_weaker _ _ (λ s e. ap not e) (db 2) tested) in
    let fresh : is_taken (filter (λ s. not (has_place p s)) (db 2)) (entry_row (id_of r) name v) ≡ false = left_fresh _ (sym (λ k. not (is_taken (rest k) (row k)) && true) ∙ made.fresh) in
    let rows : written.0 2 ≡ put_row (entry_row (id_of r) name v) (filter (λ s. not (has_place p s)) (db 2)) = made.rows ∙ (λ k. put_row (row k) (rest k)) in
    let more : Adds (entry_row (id_of r) name v) (filter (λ s. not (has_place p s)) (db 2)) (written.0 2) = (fresh, subst (HasOneMore (entry_row (id_of r) name v) _) (sym rows) (put_fresh (entry_row (id_of r) name v) _ fresh)) in
    (ap (λ (d : Database). d.schema) now, (id_of r, subst (λ (t : Trees). Adds (entry_row (id_of r) name v) (filter (λ s. not (has_place p s)) (db 2)) (t 2)) (sym all) more), ap (λ (t : Trees). t 0) all ∙ made.others 0 (λ e. omega (arith, e)) (no_index 0 (inl refl)), ap (λ (t : Trees). t 4) all ∙ made.others 4 (λ e. omega (arith, e)) (no_index 4 (inr (inr refl))))

-- ---- the table

-- nothing stands where a value was taken away
free_after : (t mid : Table) (p : Place) → mid ≡ record t { values = map.remove t.values p } → at mid p ≡ None
free_after t mid p is = ap (λ (m : Table). at m p) is ∙ map.get-remove place_total t.values p p ∙ ap (λ b. cond b None (at t p)) ((eq_by_cmp_equiv place_total).refl p)

-- a value that is taken away and put is put over the one that stood there
replaced : (t mid next : Table) (p : Place) (v : Value) → mid ≡ record t { values = map.remove t.values p } → next ≡ record mid { values = map.insert mid.values p v } → next ≡ record t { values = map.insert t.values p v }
replaced t mid next p v first second =
    second ∙ ap (λ (m : Table). record m { values = map.insert m.values p v }) first ∙ (λ i. record t { values = same i })
  where
    over : (b : Bool) (x : Option Value) → cond b (Some v) (cond b None x) ≡ cond b (Some v) x
    over true x = refl
    over false x = refl

    same : map.insert (map.remove t.values p) p v ≡ map.insert t.values p v
    same = map.same_map place_total place_antisymmetric _ _ (λ q.
        map.get-insert place_total (map.remove t.values p) p v q ∙ ap (cond (eq_by_cmp place_cmp q p) (Some v)) (map.get-remove place_total t.values p q)
        ∙ over (eq_by_cmp place_cmp q p) (map.get t.values q) ∙ sym (map.get-insert place_total t.values p v q))

with_updated : (db next : Trees) (id : ℤ) (name : List ℕ) (v : Value) → AreKept db → v.timestamp < 2 ^ 64 → AreShort v.references
    → Adds (entry_row id name v) (filter (λ r. not (has_place (place name v.index) r)) (db 2)) (next 2) → next 0 ≡ db 0
    → AreKept next × (table_in next ≡ record (table_in db) { values = map.insert (table_in db).values (place name v.index) v })
with_updated db next id name v kept timestamp short more same =
    let p = place name v.index in
    let mid : Trees = λ t. cond (t == 2) (filter (λ r. not (has_place p r)) (db 2)) (db t) in
    let gone = without_entry db mid p kept refl refl in
    let put = with_entry mid next id name v gone.0 timestamp short more same (free_after (table_in db) (table_in mid) p gone.1) in
    (put.0, replaced (table_in db) (table_in mid) (table_in next) p v gone.1 put.1)

pub replaces_entry : (old new : State) (name : List ℕ) (v : Value) (count : ℕ) → IsInside old → v.timestamp < 2 ^ 64 → AreShort v.references → at (draft_table old) (place name v.index) ≢ None → ExecutesInside 0 update_entry (entry_cells name v) old new (Ok count)
    → IsDraft new (record (draft_table old) { values = map.insert (draft_table old).values (place name v.index) v })
replaces_entry old new name v count inside timestamp short there ran =
    let did = updates_entry old new name v count inside.whole there ran.0 in
    let made = with_updated old.now.trees new.now.trees did.1.0 name v inside.whole.kept timestamp short did.1.1 did.2 in
    (ran.1.is_open, record { whole = record { layout = did.0; kept = made.0 }; inside = ran.1.mode }, made.1)

pub update_beside : (old new : State) (name : List ℕ) (v : Value) (count : ℕ) → IsInside old → at (draft_table old) (place name v.index) ≢ None → ExecutesInside 0 update_entry (entry_cells name v) old new (Ok count) → new.now.trees 4 ≡ old.now.trees 4
update_beside old new name v count inside there ran = (updates_entry old new name v count inside.whole there ran.0).3

-- ---- one after the other

-- a value that is put takes none away
still_present : (t : Table) (h : List ℕ) (i : ℕ) (v : Value) (is : List ℕ) → ArePresent t h is → ArePresent (record t { values = map.insert t.values (place h i) v }) h is
still_present t h i v [] there = tt
still_present t h i v (j ∷ is) there =
    ((λ none. stands (eq_by_cmp place_cmp (place h j) (place h i)) (at t (place h j)) there.0 (sym (map.get-insert place_total t.values (place h i) v (place h j)) ∙ none)), still_present t h i v is there.1)
  where
    stands : (b : Bool) (x : Option Value) → x ≢ None → cond b (Some v) x ≡ None → ⊥
    stands true x some none = some_none v none
    stands false x some none = some none

pub replace_more : (t next : Table) (h : List ℕ) (vs : List Value) (n : ℕ) (v : Value) → v ≡ get_or vs n v → n < length vs → ArePresent t h (indexes (drop n vs)) → next ≡ record t { values = map.insert t.values (place h v.index) v }
    → ArePresent next h (indexes (drop (n + 1) vs)) × (with_values next h (drop (n + 1) vs) ≡ with_values t h (drop n vs))
replace_more t next h vs n v is low there put =
    let split : drop n vs ≡ v ∷ drop (n + 1) vs = rw (add-one, drop-cons vs n v) (ap (λ x. x ∷ drop (suc n) vs) (sym is)) in
    let all = subst (λ xs. ArePresent t h (indexes xs)) split there in
    (subst (λ x. ArePresent x h (indexes (drop (n + 1) vs))) (sym put) (still_present t h v.index v (indexes (drop (n + 1) vs)) all.1), ap (λ x. with_values x h (drop (n + 1) vs)) put ∙ ap (with_values t h) (sym split))

-- the next of them stands at its index
pub next_present : (t : Table) (h : List ℕ) (vs : List Value) (n : ℕ) (v : Value) → v ≡ get_or vs n v → n < length vs → ArePresent t h (indexes (drop n vs)) → at t (place h v.index) ≢ None
next_present t h vs n v is low there =
    let split : drop n vs ≡ v ∷ drop (n + 1) vs = rw (add-one, drop-cons vs n v) (ap (λ x. x ∷ drop (suc n) vs) (sym is)) in
    (subst (λ xs. ArePresent t h (indexes xs)) split there).0
