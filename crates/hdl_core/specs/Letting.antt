-- Whether a table can have a change, by the heads of the values of the handle that it names.
use Rattle.std.specs.Prelude.{ℕ, List, [], Bool, not, ◌&&◌}
use Rattle.std.specs.List.{list_any}
use Rattle.hdl_value.specs.declared.value.Value.{Value}
use Rattle.hdl_rows.specs.Table.{indexes}
use Rattle.hdl_ops.specs.Admission.{has_twins}
use Rattle.hdl_ops.specs.Proven.{misses_at, takes_at}
use Rattle.hdl_ops.specs.declared.change.Change.{Change}
use Rattle.hdl_ops.specs.declared.change.Change.TheVariants.{Create, Delete, Add, Remove, Modify}

-- the handle, as the change names it
abbrev pub name_of : Change → List ℕ
name_of (Create name values) = name
name_of (Delete name) = name
name_of (Add name values) = name
name_of (Remove name is) = name
name_of (Modify name values) = name

-- the indexes that the change names
abbrev pub indexes_of : Change → List ℕ
indexes_of (Create name values) = indexes values
indexes_of (Delete name) = []
indexes_of (Add name values) = indexes values
indexes_of (Remove name is) = is
indexes_of (Modify name values) = indexes values

-- the handle is absent for a create and there for all else, and no value is in the way or missing
abbrev pub stands : Bool → List Value → Change → Bool
stands there heads (Create name values) = not there
stands there heads (Delete name) = there
stands there heads (Add name values) = there && not (list_any (takes_at heads) (indexes values))
stands there heads (Remove name is) = there && not (list_any (misses_at heads) is)
stands there heads (Modify name values) = there && not (list_any (misses_at heads) (indexes values))

-- so does it, and no index is named twice
abbrev pub is_fit : Bool → List Value → Change → Bool
is_fit there heads change = not (has_twins (λ i. i) (indexes_of change)) && stands there heads change
