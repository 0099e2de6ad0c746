-- What the calls of a shelf make of its entries, and so of its table.
use Rattle.std.proofs.Common.{◌≡◌, ℕ, List, [], Vec, filter, false, not, Option, Some, None, option_map, Result, Ok, Err, OnOk, OnErr, IfOk, IsTrue, is_some, refl, sym, ap, ◌∙◌, subst, true≢false, ◌==◌}
use Rattle.std.specs.declared.alloc.Global.{Global}
use Rattle.std.specs.List.{list_any}
use Rattle.std.specs.Map.{lookup, set_value}
use Rattle.std.specs.Ordering.{nat_cmp}
use Rattle.std.specs.FinMap.{find, put, is_sorted}
use Rattle.std.specs.FinMap.Entries.{where_key}
use Rattle.hdl_value.specs.Place.{handle_cmp, same_handle}
use Rattle.hdl_value.specs.declared.value.Value.{Value}
use Rattle.hdl_rows.specs.Table.{Table, place, has, at, values_of, HaveTheirIndexes, with_new_handle, with_values, without_values, without_handle}
use Rattle.hdl_rows.specs.Write.{Create, Add, Remove, Delete}
use Rattle.hdl_rows.specs.RowStore.{entries_of, by_index, table_of, AreInOrder, put_all}
use Rattle.hdl_rows.proofs.Writes.{put_at, removed_at}
use Rattle.hdl_rows.proofs.ShelfLemmas.{to_T, found_sorted, indexes_kept, at-table, has-table, changed, within, values_there, values_put, values_left, values_of-table}
use Rattle.hdl_rows.proofs.RowsLemmas.{Entries, is_key, find-entries, entries-set, entries-same, put_in, taken_away}

none_of : {A : Type 0} (o : Option A) → is_some o ≡ false → o ≡ None
none_of None e = refl
none_of (Some x) e = absurd (true≢false e)

-- ---- reading

is_some-map : {A B : Type 0} (f : A → B) (o : Option A) → is_some (option_map f o) ≡ is_some o
is_some-map f None = refl
is_some-map f (Some x) = refl

-- the values that a look-up gives
abbrev pub items_in : Option (Vec Value Global) → Option (List Value)
items_in = option_map (λ v. v.items)

pub has_is : (t : Table) (es : Entries) (h : List ℕ) → table_of (entries_of es) ≡ t → is_some (lookup (is_key h) es) ≡ has t h
has_is t es h view =
    sym (is_some-map (λ (v : Vec Value Global). v.items) (lookup (is_key h) es)) ∙ ap is_some (sym (find-entries h es)) ∙ sym (has-table (entries_of es) h) ∙ ap (λ (u : Table). has u h) view

pub at_is : (t : Table) (es : Entries) (h : List ℕ) (i : ℕ) → table_of (entries_of es) ≡ t → AreInOrder (entries_of es) → within (items_in (lookup (is_key h) es)) i ≡ at t (place h i)
at_is t es h i view order = ap (λ x. within x i) (sym (find-entries h es)) ∙ sym (at-table (entries_of es) order.handles (place h i)) ∙ ap (λ (u : Table). at u (place h i)) view

pub values_is : (t : Table) (es : Entries) (h : List ℕ) → table_of (entries_of es) ≡ t → AreInOrder (entries_of es) → values_there (items_in (lookup (is_key h) es)) ≡ values_of t h
values_is t es h view order = ap values_there (sym (find-entries h es)) ∙ sym (values_of-table (entries_of es) h order) ∙ ap (λ (u : Table). values_of u h) view

-- the values that were found rise
pub found_rises : (es : Entries) (h : List ℕ) (v : Vec Value Global) → AreInOrder (entries_of es) → lookup (is_key h) es ≡ Some v → IsTrue (is_sorted nat_cmp (by_index v.items))
found_rises es h v order is = found_sorted h (entries_of es) v.items order.values (find-entries h es ∙ ap items_in is)

pub by_index_is : (t : Table) (es : Entries) (h : List ℕ) (vs : List Value) → table_of (entries_of es) ≡ t → AreInOrder (entries_of es) → vs ≡ values_of t h → HaveTheirIndexes t h vs
by_index_is t es h vs view order is =
    let there : values_there (find handle_cmp h (entries_of es)) ≡ vs = sym (values_of-table (entries_of es) h order) ∙ ap (λ (u : Table). values_of u h) view ∙ sym is in
    subst (λ (u : Table). HaveTheirIndexes u h vs) view (subst (HaveTheirIndexes (table_of (entries_of es)) h) there (indexes_kept (entries_of es) h order))

pub if_ok_then : {X E : Type 0} (r : Result X E) (P Q : X → Type 0) → ((x : X) → P x → Q x) → IfOk r P → IfOk r Q
if_ok_then (Ok x) P Q f p = f x p
if_ok_then (Err e) P Q f p = tt

-- ---- a new handle

pub created_is : (t : Table) (es next : Entries) (h : List ℕ) (vs all : List Value) → table_of (entries_of es) ≡ t → AreInOrder (entries_of es) → has t h ≡ false
    → by_index all ≡ put_all [] vs → entries_of next ≡ put handle_cmp h all (entries_of es)
    → AreInOrder (entries_of next) × (table_of (entries_of next) ≡ with_new_handle t h vs)
created_is t es next h vs all view order absent put is =
    let none : find handle_cmp h (entries_of es) ≡ None = none_of _ (sym (has-table (entries_of es) h) ∙ ap (λ (u : Table). has u h) view ∙ absent) in
    let values = values_put all [] vs put refl in
    let step = put_in (entries_of es) h all order values.0 in (
      subst AreInOrder (sym is) step.0,
      ap table_of is ∙ changed (entries_of es) _ (Create h vs) (Some all) order.handles step.0.handles step.1 refl (λ i. values.1 i ∙ ap (λ x. put_at vs i (within x i)) (sym none)) ∙ ap (λ (u : Table). with_new_handle u h vs) view,
    )

-- ---- a handle that is there

-- the values that were found, and those in their place
pub record Changes (t : Table) (es next : Entries) (h : List ℕ) (old new : List Value) : Type 0 where
  pub view : table_of (entries_of es) ≡ t
  pub order : AreInOrder (entries_of es)
  pub found : find handle_cmp h (entries_of es) ≡ Some old
  pub is : entries_of next ≡ put handle_cmp h new (entries_of es)

rises : (t : Table) (es next : Entries) (h : List ℕ) (old new : List Value) → Changes t es next h old new → IsTrue (is_sorted nat_cmp (by_index old))
rises t es next h old new c = found_sorted h (entries_of es) old c.order.values c.found

abbrev pub Becomes : Entries → Table → Type 0
Becomes next u = AreInOrder (entries_of next) × (table_of (entries_of next) ≡ u)

pub with_all : (t : Table) (es next : Entries) (h : List ℕ) (old new vs : List Value) → Changes t es next h old new → by_index new ≡ put_all (by_index old) vs → Becomes next (with_values t h vs)
with_all t es next h old new vs c put =
    let values = values_put new old vs put (rises t es next h old new c) in
    let step = put_in (entries_of es) h new c.order values.0 in (
      subst AreInOrder (sym c.is) step.0,
      ap table_of c.is ∙ changed (entries_of es) _ (Add h vs) (Some new) c.order.handles step.0.handles step.1 (ap is_some c.found) (λ j. values.1 j ∙ ap (λ x. put_at vs j (within x j)) (sym c.found))
          ∙ ap (λ (u : Table). with_values u h vs) c.view,
    )

pub as_before : (t : Table) (es next : Entries) → table_of (entries_of es) ≡ t → AreInOrder (entries_of es) → entries_of next ≡ entries_of es → Becomes next t
as_before t es next view order is = (subst AreInOrder (sym is) order, ap table_of is ∙ view)

-- the entries after values were written over those that were found
pub written_over : (t : Table) (es next : Entries) (h : List ℕ) (old new : Vec Value Global) → table_of (entries_of es) ≡ t → AreInOrder (entries_of es) → lookup (is_key h) es ≡ Some old → next ≡ set_value (is_key h) es new
    → Changes t es next h old.items new.items
written_over t es next h old new view order there is =
    let found = find-entries h es ∙ ap items_in there in
    record { view = view; order = order; found = found; is = ap entries_of is ∙ entries-set h old.items new es (to_T _ order.handles) found }

-- values were put, or memory was refused
pub put_is : {A E : Type 0} (r : Result A E) (t : Table) (es next : Entries) (h : List ℕ) (old new : Vec Value Global) (vs : List Value) → table_of (entries_of es) ≡ t → AreInOrder (entries_of es) → lookup (is_key h) es ≡ Some old
    → next ≡ set_value (is_key h) es new → OnOk r (by_index new.items ≡ put_all (by_index old.items) vs) → OnErr r (new.items ≡ old.items)
    → AreInOrder (entries_of next) × OnOk r (table_of (entries_of next) ≡ with_values t h vs) × OnErr r (table_of (entries_of next) ≡ t)
put_is (Ok x) t es next h old new vs view order there is done undone =
    let step = with_all t es next h old.items new.items vs (written_over t es next h old new view order there is) done in
    (step.0, step.1, tt)
put_is (Err e) t es next h old new vs view order there is done undone =
    let step = as_before t es next view order (ap entries_of is ∙ entries-same h new es (find-entries h es ∙ ap items_in there ∙ ap Some (sym undone))) in
    (step.0, tt, step.1)

pub removed_is : (t : Table) (es next : Entries) (h : List ℕ) (old new : List Value) (is : List ℕ) → Changes t es next h old new → new ≡ filter (λ v. not (list_any (λ j. j == v.index) is)) old → Becomes next (without_values t h is)
removed_is t es next h old new is c left =
    let values = values_left new old is left (rises t es next h old new c) in
    let step = put_in (entries_of es) h new c.order values.0 in (
      subst AreInOrder (sym c.is) step.0,
      ap table_of c.is ∙ changed (entries_of es) _ (Remove h is) (Some new) c.order.handles step.0.handles step.1 (ap is_some c.found) (λ j. values.1 j ∙ ap (λ x. removed_at is j (within x j)) (sym c.found))
          ∙ ap (λ (u : Table). without_values u h is) c.view,
    )

pub deleted_is : (t : Table) (es next : Entries) (h : List ℕ) → table_of (entries_of es) ≡ t → AreInOrder (entries_of es) → entries_of next ≡ where_key handle_cmp (λ q. not (same_handle h q)) (entries_of es) → Becomes next (without_handle t h)
deleted_is t es next h view order is =
    let step = taken_away (entries_of es) h order in (
      subst AreInOrder (sym is) step.0,
      ap table_of is ∙ changed (entries_of es) _ (Delete h) None order.handles step.0.handles step.1 refl (λ i. refl) ∙ ap (λ (u : Table). without_handle u h) view,
    )

-- what an answer's value is, further on
pub if_ok : {A B E : Type 0} (r : Result A E) (f : A → B) (x y : B) → IfOk r (λ a. f a ≡ x) → x ≡ y → IfOk r (λ a. f a ≡ y)
if_ok (Ok a) f x y e is = e ∙ is
if_ok (Err e) f x y h is = tt
