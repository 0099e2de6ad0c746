-- The write that undoes another, and what the two make of a table.
use Rattle.std.specs.Prelude.{◌≡◌, ℕ, List, Some}
use Rattle.std.specs.List.{filter_map}
use Rattle.hdl_value.specs.declared.value.Value.{Value}
use Rattle.hdl_rows.specs.Table.{Table, place, at, values_of, indexes, IsPlaced}
use Rattle.hdl_rows.specs.Write.{Write, Create, Add, Modify, Remove, Delete, handle_of, after_write, CanWrite}

-- the values that stand at these indexes of the handle, in the order of the indexes
abbrev pub values_at : Table → List ℕ → List ℕ → List Value
values_at t h is = filter_map (λ i. at t (place h i)) is

-- the write that undoes one, over the table before it: it takes away what that made, and puts back what that replaced or took away
abbrev pub inverse : Table → Write → Write
inverse t (Create h vs) = Delete h
inverse t (Add h vs) = Remove h (indexes vs)
inverse t (Modify h vs) = Modify h (values_at t h (indexes vs))
inverse t (Remove h is) = Add h (values_at t h is)
inverse t (Delete h) = Create h (values_of t h)

-- each value of the handle stands at the index that it has
abbrev pub AreAtOwnIndexes : Table → List ℕ → Type 0
AreAtOwnIndexes t h = (i : ℕ) (v : Value) → at t (place h i) ≡ Some v → v.index ≡ i

-- and so does each value of the table
abbrev pub HasOwnIndexes : Table → Type 0
HasOwnIndexes t = (h : List ℕ) → AreAtOwnIndexes t h

-- the table after the first write allows the second, which leaves the table as it was
abbrev pub IsUndo : Table → Write → Write → Type 0
IsUndo t w v = CanWrite (after_write t w) v × (after_write (after_write t w) v ≡ t)

-- ---- the laws

-- the table after a write allows its inverse
abbrev pub CanUndo : Type 0
CanUndo = (t : Table) (w : Write) → AreAtOwnIndexes t (handle_of w) → CanWrite t w → CanWrite (after_write t w) (inverse t w)

-- a write and then its inverse leave the table as it was
abbrev pub Undone : Type 0
Undone = (t : Table) (w : Write) → IsPlaced t → AreAtOwnIndexes t (handle_of w) → CanWrite t w → after_write (after_write t w) (inverse t w) ≡ t

-- a table whose values stand at their own indexes is such a one after every write
abbrev pub OwnIndexesStay : Type 0
OwnIndexesStay = (t : Table) (w : Write) → HasOwnIndexes t → HasOwnIndexes (after_write t w)
