-- The request that undoes a change, or why there is none.
use Rattle.std.specs.Prelude.{◌≡◌, ◌⊎◌, ℕ, ◌==◌, nat_lt, Bool, not, ◌&&◌, if◌then◌else◌, List, length, Option, Some, None, Result, Ok, Err}
use Rattle.std.specs.List.{find, list_all, list_any}
use Rattle.std.specs.Option.{is_some}
use Rattle.hdl_limits.specs.declared.TheConstants.{WRITTEN_MAX}
use Rattle.hdl_value.specs.declared.value.Value.{Value}
use Rattle.hdl_value.specs.declared.wire.Wire.{Wire}
use Rattle.hdl_value.specs.declared.wire.Wire.TheVariants.{Profile, HandleNet}
use Rattle.hdl_value.specs.HandleNet.{moment_of, second_of}
use Rattle.hdl_msg.specs.declared.request_body.RequestBody.{RequestBody}
use Rattle.hdl_msg.specs.declared.request_body.RequestBody.TheVariants as request
use Rattle.hdl_history.specs.declared.entry.Entry.{Entry}
use Rattle.hdl_history.specs.declared.entry.Operation.{Operation}
use Rattle.hdl_history.specs.declared.entry.Operation.TheVariants as operation
use Rattle.hdl_undo.specs.declared.fault.UndoFault.{UndoFault}
use Rattle.hdl_undo.specs.declared.fault.UndoFault.TheVariants as fault
use Rattle.hdl_undo.specs.Before.{SaysValues, HasNoValues}

-- ---- what stands

-- a moment as a reply tells it: the layout of the Handle.Net software has its second
abbrev pub told : Wire → ℕ → ℕ
told Profile moment = moment
told HandleNet moment = moment_of (second_of moment)

abbrev pub has_index : List Value → ℕ → Bool
has_index vs index = list_any (λ v. v.index == index) vs

-- the value at the index was written at this moment
abbrev pub stands : ℕ → List Value → ℕ → Bool
stands moment vs index = list_any (λ v. v.index == index && v.timestamp == moment) vs

abbrev pub is_among : List ℕ → ℕ → Bool
is_among indexes index = list_any (λ i. i == index) indexes

-- the first index whose value was not written at this moment
abbrev pub changed : ℕ → List Value → List ℕ → Option ℕ
changed moment vs indexes = find (λ i. not (stands moment vs i)) indexes

-- the first index that has a value
abbrev pub taken : List Value → List ℕ → Option ℕ
taken vs indexes = find (λ i. has_index vs i) indexes

-- the first value with another index
abbrev pub added : List ℕ → List Value → Option Value
added indexes vs = find (λ v. not (is_among indexes v.index)) vs

-- there is a value at each index, and at no other
abbrev pub are_at : List ℕ → List Value → Bool
are_at indexes vs = not (is_some (added indexes vs)) && list_all (λ i. has_index vs i) indexes

-- ---- the request

-- what follows if the handle is there
abbrev pub if_there : Option (List Value) → (List Value → Result RequestBody UndoFault) → Result RequestBody UndoFault
if_there None f = Err fault.NotThere
if_there (Some vs) f = f vs

-- what follows unless an index is in the way
abbrev pub unless : Option ℕ → (ℕ → UndoFault) → Result RequestBody UndoFault → Result RequestBody UndoFault
unless None why r = r
unless (Some index) why r = Err (why index)

abbrev pub unless_added : Option Value → Result RequestBody UndoFault → Result RequestBody UndoFault
unless_added None r = r
unless_added (Some v) r = Err (fault.Added v.index)

-- the values before are those at the indexes
abbrev pub if_at : List ℕ → List Value → Result RequestBody UndoFault → Result RequestBody UndoFault
if_at indexes before r = if are_at indexes before then r else Err fault.OtherIndexes

-- of a creation: all values stand as it wrote them, and no other does
abbrev pub undo_create : ℕ → Entry → Option (List Value) → Result RequestBody UndoFault
undo_create moment e there = if_there there (λ vs. unless (changed moment vs e.indexes) fault.Changed (unless_added (added e.indexes vs) (Ok (request.Delete e.handle))))

-- of an addition: the values stand as it wrote them
abbrev pub undo_add : ℕ → Entry → Option (List Value) → Result RequestBody UndoFault
undo_add moment e there = if_there there (λ vs. unless (changed moment vs e.indexes) fault.Changed (Ok (request.Remove e.handle e.indexes)))

-- of a modification the same
abbrev pub undo_modify : ℕ → Entry → List Value → Option (List Value) → Result RequestBody UndoFault
undo_modify moment e before there =
    if_at e.indexes before (if_there there (λ vs. unless (changed moment vs e.indexes) fault.Changed (Ok (request.Modify e.handle before))))

-- of a removal: no value stands at the indexes
abbrev pub undo_remove : Entry → List Value → Option (List Value) → Result RequestBody UndoFault
undo_remove e before there = if_at e.indexes before (if_there there (λ vs. unless (taken vs e.indexes) fault.ValueThere (Ok (request.Add e.handle before))))

-- of a deletion: the handle isn't there, and one request can create its values
abbrev pub undo_delete : Entry → List Value → Option (List Value) → Result RequestBody UndoFault
undo_delete e before None = if nat_lt WRITTEN_MAX (length before) then Err (fault.TooMany (length before)) else Ok (request.Create e.handle before)
undo_delete e before (Some vs) = Err fault.HandleThere

abbrev pub undo_by : Operation → ℕ → Entry → List Value → Option (List Value) → Result RequestBody UndoFault
undo_by operation.Create moment e before there = undo_create moment e there
undo_by operation.Add moment e before there = undo_add moment e there
undo_by operation.Modify moment e before there = undo_modify moment e before there
undo_by operation.Remove moment e before there = undo_remove e before there
undo_by operation.Delete moment e before there = undo_delete e before there

-- by the values before, and those that stand as a reply of this layout tells them
abbrev pub undo_of : Wire → Entry → List Value → Option (List Value) → Result RequestBody UndoFault
undo_of wire e before there = undo_by e.operation (told wire e.moment) e before there

-- by what the history says of the values before
abbrev pub Undoes : Wire → Entry → Option (List Value) → RequestBody → Type 0
Undoes wire e there body = (before : List Value) × SaysValues e.before before × (undo_of wire e before there ≡ Ok body)

abbrev pub CantUndo : Wire → Entry → Option (List Value) → UndoFault → Type 0
CantUndo wire e there why = HasNoValues e.before why ⊎ (why ≡ fault.Memory) ⊎ ((before : List Value) × SaysValues e.before before × (undo_of wire e before there ≡ Err why))
