-- The laws of `src/laws.rt`.
use Rattle.std.specs.Prelude.{◌≡◌, ◌≢◌, ℕ, List, true, false, Some, None}
use Rattle.std.specs.List.{AllByRecursion}
use Rattle.hdl_value.specs.Place.{Place}
use Rattle.hdl_value.specs.declared.value.Value.{Value}
use Rattle.hdl_rows.specs.Table.{Table, place, has, at, values_of, with_new_handle, with_values, without_values, without_handle, AreDistinct, indexes, IsPlaced}
use Rattle.hdl_rows.specs.Write.{Write, handle_of, after_write, CanWrite}

-- tables that answer alike are equal
abbrev pub SameLookUps : Type 0
SameLookUps = (t u : Table) → ((h : List ℕ) → has t h ≡ has u h) → ((p : Place) → at t p ≡ at u p) → t ≡ u

-- a value that was put is at its index
abbrev pub PutStands : Type 0
PutStands = (t : Table) (h : List ℕ) (vs : List Value) → AreDistinct (indexes vs) → AllByRecursion (λ v. at (with_values t h vs) (place h v.index) ≡ Some v) vs

-- the values at the handle's other indexes are as they were
abbrev pub OthersStay : Type 0
OthersStay = (t : Table) (h : List ℕ) (vs : List Value) (i : ℕ) → AllByRecursion (λ j. i ≢ j) (indexes vs) → at (with_values t h vs) (place h i) ≡ at t (place h i)

-- there is no value at an index that was removed
abbrev pub RemovedAreGone : Type 0
RemovedAreGone = (t : Table) (h : List ℕ) (is : List ℕ) → AllByRecursion (λ i. at (without_values t h is) (place h i) ≡ None) is

-- and the others are as they were
abbrev pub UnremovedStay : Type 0
UnremovedStay = (t : Table) (h : List ℕ) (is : List ℕ) (i : ℕ) → AllByRecursion (λ j. i ≢ j) is → at (without_values t h is) (place h i) ≡ at t (place h i)

-- a handle that was created is there with its values
abbrev pub CreatedIsThere : Type 0
CreatedIsThere = (t : Table) (h : List ℕ) (vs : List Value) → AreDistinct (indexes vs)
    → (has (with_new_handle t h vs) h ≡ true) × AllByRecursion (λ v. at (with_new_handle t h vs) (place h v.index) ≡ Some v) vs

-- a handle that was deleted is gone with its values
abbrev pub DeletedIsGone : Type 0
DeletedIsGone = (t : Table) (h : List ℕ) → (has (without_handle t h) h ≡ false) × ((i : ℕ) → at (without_handle t h) (place h i) ≡ None)

-- a write leaves every other handle and its values as they were
abbrev pub OtherHandlesStay : Type 0
OtherHandlesStay = (t : Table) (w : Write) (g : List ℕ) → g ≢ handle_of w
    → (has (after_write t w) g ≡ has t g) × ((i : ℕ) → at (after_write t w) (place g i) ≡ at t (place g i)) × (values_of (after_write t w) g ≡ values_of t g)

-- adding, modifying and removing leave the handles as they were
abbrev pub HandlesStay : Type 0
HandlesStay = (t : Table) (h g : List ℕ) (vs : List Value) (is : List ℕ) → (has (with_values t h vs) g ≡ has t g) × (has (without_values t h is) g ≡ has t g)

-- if each value was at a handle, each is after a write
abbrev pub StayPlaced : Type 0
StayPlaced = (t : Table) (w : Write) → IsPlaced t → CanWrite t w → IsPlaced (after_write t w)
