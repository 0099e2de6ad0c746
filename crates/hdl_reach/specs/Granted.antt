-- The grants of a handle, read by the heads of its values.
use Rattle.std.specs.Prelude.{ℕ, ◌+◌, List, [], Option, Some, None, sum_by, if◌then◌else◌}
use Rattle.std.specs.List.{flat_map}
use Rattle.hdl_value.specs.Place.{Place}
use Rattle.hdl_value.specs.Refs.{is_admin, value_grants}
use Rattle.hdl_value.specs.declared.value.Value.{Value}
use Rattle.hdl_rows.specs.declared.reads.TheConstants.{CALL_OCTETS}
use Rattle.hdl_rows.specs.Reads.{of_value}
use Rattle.hdl_rows.specs.Table.{Table, place, at}

abbrev pub grants_of_found : Option Value → List (ℕ × Place)
grants_of_found None = []
grants_of_found (Some v) = value_grants v

-- the grant of the value at the index of a head, if the head is of type HS_ADMIN
abbrev pub granted_by : Table → List ℕ → Value → List (ℕ × Place)
granted_by t h v = if is_admin v then grants_of_found (at t (place h v.index)) else []

abbrev pub all_granted_by : Table → List ℕ → List Value → List (ℕ × Place)
all_granted_by t h heads = flat_map (granted_by t h) heads

-- what this reads
abbrev pub read_by : Table → List ℕ → Value → ℕ
read_by t h v = if is_admin v then CALL_OCTETS + of_value (at t (place h v.index)) else 0

abbrev pub all_read_by : Table → List ℕ → List Value → ℕ
all_read_by t h heads = sum_by (read_by t h) heads
