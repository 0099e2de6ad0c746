-- What a table of values within limits counts at most, in numbers.
use Rattle.std.specs.Prelude.{◌≤◌, ◌+◌, ◌*◌, ℕ, List, length}
use Rattle.std.specs.List.{AllByRecursion}
use Rattle.std.specs.FinMap as map
use Rattle.hdl_limits.specs.declared.TheConstants.{NAME_MAX, TYPE_MAX, DATA_MAX, REFERENCES_MAX, VALUES_MAX}
use Rattle.hdl_value.specs.declared.references.RawRef.{RawRef}
use Rattle.hdl_value.specs.declared.value.Value.{Value}
use Rattle.hdl_rows.specs.Table.{Table, values_of, names_of}
use Rattle.hdl_rows.specs.declared.reads.TheConstants.{CALL_OCTETS, VALUE_OCTETS, REFERENCE_OCTETS}
use Rattle.hdl_rows.specs.Reads.{names_octets}
use Rattle.hdl_reach.specs.Cost.{Most, HasAtMost}

-- type, data and references are no longer than the limits of a value
pub record IsShort (v : Value) : Type 0 where
  pub kind : length v.kind ≤ TYPE_MAX
  pub bytes : length v.bytes ≤ DATA_MAX
  pub count : length v.references ≤ REFERENCES_MAX
  pub handles : AllByRecursion (λ (r : RawRef). length r.handle ≤ NAME_MAX) v.references

-- each value is short, and no handle has more than 1,024
pub record IsWithinLimits (t : Table) : Type 0 where
  pub short : AllByRecursion IsShort (map.values t.values)
  pub few : (h : List ℕ) → length (values_of t h) ≤ VALUES_MAX

abbrev pub head_most : ℕ
head_most = VALUE_OCTETS + TYPE_MAX

abbrev pub value_most : ℕ
value_most = head_most + DATA_MAX + REFERENCES_MAX * (REFERENCE_OCTETS + NAME_MAX)

-- a value, the heads of a handle's values, its HS_ADMIN values, and lists of so many octets
abbrev pub limits : ℕ → Most
limits names = record { value = value_most; heads = VALUES_MAX * head_most; admins = VALUES_MAX * (CALL_OCTETS + value_most); names = names }

-- a table within limits has no more than that
abbrev pub LimitsBound : Type 0
LimitsBound = (t : Table) (names : ℕ) → IsWithinLimits t → ((a : List ℕ) → names_octets (names_of t a) ≤ names) → HasAtMost t (limits names)
