-- What the DELETE of a handle makes of the table.
use Rattle.std.proofs.Common.{true≢false, ◌≡◌, inl, inr, ℕ, ◌≤◌, ℤ, List, [], ◌∷◌, map, filter, find, length, Bool, true, false, cond, not, ◌&&◌, ◌||◌, ◌==◌, None, Some, Ok, refl, sym, ap, subst, ◌∙◌, arith, unwrap_or}
use Rattle.std.specs.FinMap as map
use Rattle.std.specs.FinSet as set
use Rattle.std.specs.List.{AllByRecursion, list_any}
use Rattle.std.proofs.Math.Bool.{and-true, or-true, or-false}
use Rattle.sqlite_value.specs.declared.keys.Collation.TheVariants.{Binary}
use Rattle.sqlite_value.specs.declared.value.Value.TheVariants.{Int, Blob, Null}
use Rattle.sqlite_value.specs.Order.{Row, column}
use Rattle.sqlite_value.specs.Keys.{plain as plain_order, first_key}
use Rattle.sqlite_trees.specs.Tree.{Trees, has_rowid}
use Rattle.sqlite_trees.proofs.ListLemmas.{map-map, filter_same, all-filter, all_of, all_weaker, all_both}
use Rattle.sqlite_schema.specs.Rules.{agree}
use Rattle.sqlite_schema.specs.declared.command.Command.TheVariants.{Delete}
use Rattle.sqlite_sql.specs.Term.{col}
use Rattle.sqlite_sql.specs.Ops.{binary, is_true}
use Rattle.sqlite_sql.specs.declared.ops.BinaryOp.TheVariants.{Compare}
use Rattle.sqlite_sql.specs.declared.ops.CompareOp.TheVariants.{Eq}
use Rattle.sqlite_rules.specs.Lists.{Has}
use Rattle.sqlite_rules.specs.Calls.{ids_of}
use Rattle.sqlite_rules.specs.declared.error.Rowids.TheVariants.{Given}
use Rattle.sqlite_rules.specs.Action.{Work, loses, pairs, is_child_of, AreChildren}
use Rattle.sqlite_rules.specs.Edit.{edit_of, taken_by, row_at, id_in, without_all}
use Rattle.sqlite.specs.Effect.{Database}
use Rattle.sqlite.specs.Does.{Tally, Does}
use Rattle.sqlite.specs.Rows.{Written}
use Rattle.sqlite.specs.Listing.{understood}
use Rattle.sqlite.specs.State.{State, mode_of, Executes, ExecutesInside}
use Rattle.sqlite.proofs.Callers.{runs_as, statement_of}
use Rattle.hdl_value.specs.Place.{Place, same_handle}
use Rattle.hdl_value.proofs.Places.{handle_total, handle_antisymmetric, place_total, place_antisymmetric, handles_equal, handle_itself}
use Rattle.hdl_rows.specs.Table.{has, at, without_handle}
use Rattle.hdl_sqlrows.specs.Layout.{layout, handles}
use Rattle.hdl_sqlrows.specs.Stored.{IsWhole, IsInside, AreKept, IsHandleRow, IsEntryRow, place_in, entry_in, value_in, handle_in, table_in, has_place, has_handle}
use Rattle.hdl_sqlrows.specs.Filed.{IsDraft, draft_table}
use Rattle.hdl_sqlrows.proofs.Texts.{delete_handle, delete_handle_is, plain, is_param, rows_where}
use Rattle.hdl_sqlrows.proofs.Found.{times-filter, short_permutation, found_kept}
use Rattle.hdl_sqlrows.proofs.Listed.{keeps, listed, tests_name, swapped, same_blob}
use Rattle.hdl_sqlrows.proofs.Answered.{some_pass, all_pass}
use Rattle.hdl_sqlrows.proofs.Puts.{any_of}
use Rattle.hdl_sqlrows.proofs.Gone.{each_has, only, id_of, HasId, id_itself, without_ids, taken}
use Rattle.hdl_sqlrows.proofs.Cascade.{work_on, cascades}
use Rattle.hdl_sqlrows.proofs.Parts.{went, same_value, no_index}

-- ---- rows whose rowids are those of the children

any_has : {X : Type 0} (p : X → Bool) (xs : List X) (x : X) → Has xs x → p x ≡ true → list_any p xs ≡ true
any_has p [] x h pass = absurd h
any_has p (y ∷ ys) x (inl e) pass = ap (λ b. b || list_any p ys) (sym (ap p e) ∙ pass)
any_has p (y ∷ ys) x (inr h) pass = ap (λ b. p y || b) (any_has p ys x h pass) ∙ or-true (p y)

none_has : {X : Type 0} (p : X → Bool) (xs : List X) → AllByRecursion (λ x. p x ≡ false) xs → list_any p xs ≡ false
none_has p [] all = refl
none_has p (x ∷ xs) all = ap (λ b. b || list_any p xs) all.0 ∙ none_has p xs all.1

same_head : {X : Type 0} (x y : X) → x ∷ [] ≡ y ∷ [] → x ≡ y
same_head x y e = cc

-- a row that does not pass has none of the rowids
apart : (keep : Row → Bool) (rows : List Row) → ((id : ℤ) → length (filter (has_rowid id) rows) ≤ 1) → (r s : Row) (id : ℤ) → Has rows r → Has rows s → keep r ≡ false → keep s ≡ true → has_rowid id s ≡ true → has_rowid id r ≡ false
apart keep rows single r s id has other fails passes at = by_test (has_rowid id r) refl
  where
    by_test : (b : Bool) → has_rowid id r ≡ b → b ≡ false
    by_test false is = refl
    by_test true is =
        let same : r ≡ s = same_head r s (sym (only (has_rowid id) rows r has is (single id)) ∙ only (has_rowid id) rows s other at (single id)) in
        absurd (true≢false (sym passes ∙ sym (ap keep same) ∙ fails))

pub children_gone : (db : Trees) (w : Work) (ids : List ℤ) → AreChildren db w ids → AllByRecursion HasId (db w.child.tree) → ((id : ℤ) → length (filter (has_rowid id) (db w.child.tree)) ≤ 1)
    → without_all (db w.child.tree) ids ≡ filter (λ r. not (list_any (is_child_of w r) w.moves)) (db w.child.tree)
children_gone db w ids children all single =
    let rows : List Row = db w.child.tree in
    without_ids rows ids ∙ filter_same _ (λ r. not (list_any (is_child_of w r) w.moves)) rows (all_both (Has rows) HasId _ (λ r has is. ap not (by_test r has is (list_any (is_child_of w r) w.moves) refl)) rows (each_has rows) all)
  where
    by_test : (r : Row) → Has (db w.child.tree) r → HasId r → (b : Bool) → list_any (is_child_of w r) w.moves ≡ b → list_any (λ id. has_rowid id r) ids ≡ list_any (is_child_of w r) w.moves
    by_test r has is true e = any_has (λ id. has_rowid id r) ids (id_of r) (children.complete r (id_of r) has e is) (id_itself r is) ∙ sym e
    by_test r has is false e =
        none_has (λ id. has_rowid id r) ids (all_weaker (Has ids) _ (λ id h.
        let s = children.sound id h in
        let n : id_of s.0 ≡ id = ap id_in s.3 in
        let at : has_rowid id s.0 ≡ true = subst (λ m. has_rowid m s.0 ≡ true) n (id_itself s.0 (s.3 ∙ ap Int (sym n))) in
        apart (λ t. list_any (is_child_of w t) w.moves) (db w.child.tree) single r s.0 id has s.1 e s.2 at) ids (each_has ids)) ∙ sym e

-- ---- the key of the one handle

agrees : (a b : Row) (x y : List ℕ) → column a 1 ≡ Blob x → column b 1 ≡ Blob y → agree plain_order (1 ∷ []) a (1 ∷ []) b ≡ same_handle x y
unfolding first_key
agrees a b x y is other = (λ k. is_true (binary (Compare Eq Binary) (is k) (other k)) && true) ∙ and-true _ ∙ same_blob x y

agrees_not : (a : Row) (x : List ℕ) → column a 1 ≡ Blob x → agree plain_order (1 ∷ []) a (1 ∷ []) [] ≡ false
unfolding first_key binary
agrees_not a x is = λ k. is_true (binary (Compare Eq Binary) (is k) Null) && true

pub loses_key : (r : Row) → IsHandleRow r → loses plain_order (1 ∷ []) (r, []) ≡ true
loses_key r is = (λ k. agrees r r (handle_in r) (handle_in r) is.name is.name k && not (agrees_not r (handle_in r) is.name k)) ∙ ap (λ b. b && true) (handle_itself (handle_in r))

-- the entries of that handle are its children
child_is : (r s : Row) → IsHandleRow r → IsEntryRow s → list_any (is_child_of (work_on (r ∷ [])) s) (pairs (r ∷ []) []) ≡ same_handle (handle_in s) (handle_in r)
child_is r s is other = or-false _ ∙ (λ k. loses_key r is k && agrees s r (handle_in s) (handle_in r) other.name is.name k)

one_of : {X : Type 0} (xs : List X) → length xs ≤ 1 → not (length xs == 0) ≡ true → (x : X) × (xs ≡ x ∷ [])
one_of [] short some = absurd (true≢false (sym some))
one_of (x ∷ []) short some = (x, refl)
one_of (x ∷ y ∷ xs) short some = absurd (omega (arith, short))

find_only : (p : Row → Bool) (xs : List Row) (x : Row) → filter p xs ≡ x ∷ [] → find p xs ≡ Some x
find_only p [] x e = cc
find_only p (y ∷ ys) x e = by_test (p y) e (find_only p ys x)
  where
    by_test : (b : Bool) → cond b (y ∷ filter p ys) (filter p ys) ≡ x ∷ [] → (filter p ys ≡ x ∷ [] → find p ys ≡ Some x) → cond b (Some y) (find p ys) ≡ Some x
    by_test true e rest = let same : y ≡ x = cc in ap Some same
    by_test false e rest = rest e

-- the one row of the handle
pub record HasOne (db : Trees) (h : List ℕ) (r : Row) : Type 0 where
  pub is : IsHandleRow r
  pub there : Has (db 0) r
  pub same : handle_in r ≡ h
  pub all : filter (has_handle h) (db 0) ≡ r ∷ []

pub one_row : (db : Trees) (h : List ℕ) → AreKept db → has (table_in db) h ≡ true → (r : Row) × HasOne db h r
one_row db h kept there =
    let some : not (length (filter (has_handle h) (db 0)) == 0) ≡ true = sym (some_pass (has_handle h) (db 0)) ∙ sym (any_of h (db 0)) ∙ sym (set.contains-from_list handle_total (map handle_in (db 0)) h) ∙ there in
    let it = one_of (filter (has_handle h) (db 0)) (kept.names h) some in
    let whole = subst (AllByRecursion IsHandleRow) it.1 (all-filter IsHandleRow (has_handle h) (db 0) kept.handles) in
    let among = subst (AllByRecursion (Has (db 0))) it.1 (all-filter (Has (db 0)) (has_handle h) (db 0) (each_has (db 0))) in
    let passes = subst (AllByRecursion (λ r. has_handle h r ≡ true)) it.1 (all_pass (has_handle h) (db 0)) in
    (it.0, record { is = whole.0; there = among.0; same = sym (handles_equal h (handle_in it.0) passes.0); all = it.1 })

-- ---- one handle

pub deletes_handle : (old new : State) (h : List ℕ) (count : ℕ) → IsWhole old.now → has (table_in old.now.trees) h ≡ true → Executes delete_handle (Blob h ∷ []) old new (Ok count)
    → (new.now.schema ≡ layout) × (new.now.trees 0 ≡ filter (λ r. not (has_handle h r)) (old.now.trees 0)) × (new.now.trees 2 ≡ filter (λ r. not (has_handle h r)) (old.now.trees 2)) × (new.now.trees 4 ≡ old.now.trees 4)
deletes_handle old new h count whole there ran =
    let params = Blob h ∷ [] in
    let db = old.now.trees in
    let tests = is_param 1 0 ∷ [] in
    let command = Delete 0 (record { lets = []; body = rows_where 0 (is_param 1 0 ∷ []) (col 1 0 ∷ []) }) in
    let w = runs_as delete_handle params old new layout whole.layout command delete_handle_is plain.5 count ran in
    let text = statement_of delete_handle (understood layout delete_handle) in
    let done = went (subst (λ s. Does old.step_limit (mode_of old) params (record old.now { schema = s }) text None command (Ok (w.tally, new.now))) whole.layout w.changed) in
    let now = ap (λ (p : Tally × Database). p.1) (same_value (went (went done.2).2).2) in
    let queried = went done.1 in
    let written = went queried.2 in
    let next = written.0 in
    let trees : done.0.trees ≡ written.0 = ap (λ (it : Written). it.trees) (same_value written.2) in
    let all : new.now.trees ≡ written.0 = ap (λ (d : Database). d.trees) now ∙ trees in
    let l = listed 0 (is_param 1 0 ∷ []) (col 1 0 ∷ []) [] db params queried.0 refl queried.1.answer in
    let one = one_row db h whole.kept there in
    let r = one.0 in
    let tested = all_weaker IsHandleRow (λ s. keeps params tests s ≡ has_handle h s) (λ s is. tests_name h s is.name ∙ swapped (handle_in s) h) (db 0) whole.kept.handles in
    let same : filter (keeps params tests) (db 0) ≡ r ∷ [] = filter_same (keeps params tests) (has_handle h) (db 0) tested ∙ one.1.all in
    let to : l.to ≡ r ∷ [] = sym (short_permutation (filter (keeps params tests) (db 0)) l.to (subst (λ rows. length rows ≤ 1) (sym same) (omega arith)) l.moved) ∙ same in
    let ids : ids_of queried.0 ≡ map id_of l.to = ap ids_of l.shown ∙ map-map _ _ _ in
    let gone : ids_of queried.0 ≡ id_of r ∷ [] = ids ∙ ap (map id_of) to in
    let row : row_at (db 0) (id_of r) ≡ r = ap (λ o. unwrap_or o []) (find_only (has_rowid (id_of r)) (db 0) r (only (has_rowid (id_of r)) (db 0) r one.1.there (id_itself r one.1.is.id) (whole.kept.handle_ids (id_of r)))) in
    let olds : taken_by db (edit_of db handles (ids_of queried.0) Given 0 []) ≡ r ∷ [] = ap (map (row_at (db 0))) gone ∙ ap (λ x. x ∷ []) row in
    let some : list_any (loses plain_order (1 ∷ [])) (pairs (taken_by db (edit_of db handles (ids_of queried.0) Given 0 [])) []) ≡ true =
    ap (λ rows. list_any (loses plain_order (1 ∷ [])) (pairs rows [])) olds ∙ or-false _ ∙ loses_key r one.1.is in
    let led = cascades db next (ids_of queried.0) some written.1 in
    let mid = led.0 in
    let first : mid 0 ≡ filter (λ s. not (has_handle h s)) (db 0) = led.1.rows ∙ ap (without_all (db 0)) ids
    ∙ taken (keeps params tests) (db 0) l.to (all_weaker IsHandleRow HasId (λ s is. is.id) (db 0) whole.kept.handles) whole.kept.handle_ids l.moved
    ∙ filter_same _ _ (db 0) (all_weaker _ _ (λ s e. ap not e) (db 0) tested) in
    let last : mid 2 ≡ db 2 = led.1.others 2 (λ e. omega (arith, e)) (no_index 2 (inr (inl refl))) in
    let children = subst (λ rows. AreChildren mid (work_on rows) led.2.ids) olds led.2.children in
    let entries = subst (AllByRecursion IsEntryRow) (sym last) whole.kept.entries in
    let single = subst (λ rows. (id : ℤ) → length (filter (has_rowid id) rows) ≤ 1) (sym last) whole.kept.entry_ids in
    let rest : next 2 ≡ filter (λ s. not (has_handle h s)) (db 2) = led.2.entries_are
    ∙ children_gone mid (work_on (r ∷ [])) led.2.ids children (all_weaker IsEntryRow HasId (λ s is. is.id) (mid 2) entries) single
    ∙ filter_same _ (λ s. not (has_handle h s)) (mid 2) (all_weaker IsEntryRow _ (λ s is. ap not (child_is r s one.1.is is ∙ ap (same_handle (handle_in s)) one.1.same ∙ swapped (handle_in s) h)) (mid 2) entries)
    ∙ ap (filter (λ s. not (has_handle h s))) last in
    let opened : mid 4 ≡ db 4 = led.1.others 4 (λ e. omega (arith, e)) (no_index 4 (inr (inr refl))) in
    (ap (λ (d : Database). d.schema) now, ap (λ (t : Trees). t 0) all ∙ led.2.handles_are ∙ first, ap (λ (t : Trees). t 2) all ∙ rest, ap (λ (t : Trees). t 4) all ∙ led.2.opened_are ∙ opened)

-- ---- the table

any_kept : (h q : List ℕ) (rows : List Row) → list_any (same_handle q) (map handle_in (filter (λ r. not (has_handle h r)) rows)) ≡ (not (same_handle q h) && list_any (same_handle q) (map handle_in rows))
any_kept h q [] = sym (none (not (same_handle q h)))
  where
    none : (b : Bool) → (b && false) ≡ false
    none true = refl
    none false = refl
any_kept h q (r ∷ rows) = by_test (same_handle h (handle_in r)) refl (any_kept h q rows)
  where
    join : (a b c : Bool) → (a ≡ true → b ≡ true) → (b && (a || c)) ≡ (a || (b && c))
    join true b c f = ap (λ x. x && true) (f refl)
    join false b c f = refl

    drop_left : (a b c : Bool) → (a ≡ true → b ≡ false) → (b && c) ≡ (b && (a || c))
    drop_left true b c f = ap (λ x. x && c) (f refl) ∙ sym (ap (λ x. x && true) (f refl))
    drop_left false b c f = refl

    at_h : same_handle h (handle_in r) ≡ true → same_handle q (handle_in r) ≡ same_handle q h
    at_h is = ap (same_handle q) (sym (handles_equal h (handle_in r) is))

    by_test : (b : Bool) → same_handle h (handle_in r) ≡ b → list_any (same_handle q) (map handle_in (filter (λ s. not (has_handle h s)) rows)) ≡ (not (same_handle q h) && list_any (same_handle q) (map handle_in rows))
        → list_any (same_handle q) (map handle_in (cond (not b) (r ∷ filter (λ s. not (has_handle h s)) rows) (filter (λ s. not (has_handle h s)) rows))) ≡ (not (same_handle q h) && (same_handle q (handle_in r) || list_any (same_handle q) (map handle_in rows)))
    by_test true is rest = rest ∙ drop_left (same_handle q (handle_in r)) (not (same_handle q h)) _ (λ e. ap not (sym (at_h is) ∙ e))
    by_test false is rest = ap (λ b. same_handle q (handle_in r) || b) rest ∙ sym (join (same_handle q (handle_in r)) (not (same_handle q h)) _ (λ e. ap not (other e)))
      where
        other : same_handle q (handle_in r) ≡ true → same_handle q h ≡ false
        other e = ap (λ (g : List ℕ). same_handle g h) (handles_equal q (handle_in r) e) ∙ swapped (handle_in r) h ∙ is

pub without_rows : (db next : Trees) (h : List ℕ) → AreKept db → next 0 ≡ filter (λ r. not (has_handle h r)) (db 0) → next 2 ≡ filter (λ r. not (has_handle h r)) (db 2)
    → AreKept next × (table_in next ≡ without_handle (table_in db) h)
without_rows db next h kept first last =
    let keep : Row → Bool = λ r. not (has_handle h r) in
    let handles : set.from_list (map handle_in (filter (λ r. not (has_handle h r)) (db 0))) ≡ set.remove (set.from_list (map handle_in (db 0))) h = set.same_set handle_total handle_antisymmetric _ _ (λ q.
    set.contains-from_list handle_total _ q ∙ any_kept h q (db 0)
    ∙ sym (set.contains-remove handle_total (set.from_list (map handle_in (db 0))) h q ∙ ap (λ b. not (same_handle q h) && b) (set.contains-from_list handle_total (map handle_in (db 0)) q))) in
    let values : map.from_entries (map entry_in (filter (λ r. not (has_handle h r)) (db 2))) ≡ map.retain_keys (map.from_entries (map entry_in (db 2))) (λ p. not (same_handle p.handle h)) = map.same_map place_total place_antisymmetric _ _ (λ q.
    map.get-from_entries place_total _ q
    ∙ found_kept place_total place_in value_in keep (λ p. not (same_handle p.handle h)) q (λ x e. ap (λ (y : Place). not (same_handle y.handle h)) (sym (place_antisymmetric q x e))) (db 2) (all_of _ (λ r. ap not (swapped h (handle_in r))) (db 2))
    ∙ sym (map.get-retain_keys (map.from_entries (map entry_in (db 2))) (λ p. not (same_handle p.handle h)) q (λ x e. ap (λ (y : Place). not (same_handle y.handle h)) (sym (place_antisymmetric q x e)))
    ∙ ap (λ o. cond (not (same_handle q.handle h)) o None) (map.get-from_entries place_total (map entry_in (db 2)) q))) in (
      record {
        handles = subst (AllByRecursion IsHandleRow) (sym first) (all-filter IsHandleRow keep (db 0) kept.handles);
        entries = subst (AllByRecursion IsEntryRow) (sym last) (all-filter IsEntryRow keep (db 2) kept.entries);
        names = subst (λ rows. (g : List ℕ) → length (filter (has_handle g) rows) ≤ 1) (sym first) (λ g. let n = times-filter (has_handle g) keep (db 0) in omega (arith, n, kept.names g));
        places = subst (λ rows. (q : Place) → length (filter (has_place q) rows) ≤ 1) (sym last) (λ q. let n = times-filter (has_place q) keep (db 2) in omega (arith, n, kept.places q));
        handle_ids = subst (λ rows. (id : ℤ) → length (filter (has_rowid id) rows) ≤ 1) (sym first) (λ id. let n = times-filter (has_rowid id) keep (db 0) in omega (arith, n, kept.handle_ids id));
        entry_ids = subst (λ rows. (id : ℤ) → length (filter (has_rowid id) rows) ≤ 1) (sym last) (λ id. let n = times-filter (has_rowid id) keep (db 2) in omega (arith, n, kept.entry_ids id));
      },
      (λ i. record { handles = (ap (λ rows. set.from_list (map handle_in rows)) first ∙ handles) i; values = (ap (λ rows. map.from_entries (map entry_in rows)) last ∙ values) i }),
    )

pub drops_handle : (old new : State) (h : List ℕ) (count : ℕ) → IsInside old → has (draft_table old) h ≡ true → ExecutesInside 0 delete_handle (Blob h ∷ []) old new (Ok count)
    → IsDraft new (without_handle (draft_table old) h)
drops_handle old new h count inside there ran =
    let did = deletes_handle old new h count inside.whole there ran.0 in
    let made = without_rows old.now.trees new.now.trees h inside.whole.kept did.1 did.2 in
    (ran.1.is_open, record { whole = record { layout = did.0; kept = made.0 }; inside = ran.1.mode }, made.1)

pub cascade_beside : (old new : State) (h : List ℕ) (count : ℕ) → IsInside old → has (draft_table old) h ≡ true → ExecutesInside 0 delete_handle (Blob h ∷ []) old new (Ok count) → new.now.trees 4 ≡ old.now.trees 4
cascade_beside old new h count inside there ran = (deletes_handle old new h count inside.whole there ran.0).3
