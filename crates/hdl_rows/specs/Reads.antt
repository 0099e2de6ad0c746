-- What a table's calls returned, counted in octets.
use Rattle.std.specs.Prelude.{ℕ, ◌+◌, List, Option, Some, None, Result, Ok, Err, length, sum_by}
use Rattle.hdl_limits.specs.Counts.{at_most_u64}
use Rattle.hdl_value.specs.declared.references.RawRef.{RawRef}
use Rattle.hdl_value.specs.declared.value.Value.{Value}
use Rattle.hdl_rows.specs.declared.reads.TheConstants.{CALL_OCTETS, VALUE_OCTETS, REFERENCE_OCTETS, NAME_OCTETS}

-- a reference: its fields, and its handle
abbrev pub reference_octets : RawRef → ℕ
reference_octets r = REFERENCE_OCTETS + length r.handle

-- a value: its fields, its type, its data and its references
abbrev pub value_octets : Value → ℕ
value_octets v = VALUE_OCTETS + length v.kind + length v.bytes + sum_by reference_octets v.references

abbrev pub values_octets : List Value → ℕ
values_octets vs = sum_by value_octets vs

-- a handle in a list
abbrev pub name_octets : List ℕ → ℕ
name_octets h = NAME_OCTETS + length h

abbrev pub names_octets : List (List ℕ) → ℕ
names_octets hs = sum_by name_octets hs

-- ---- what a call returns

abbrev pub nothing : {X : Type 0} → X → ℕ
nothing x = 0

abbrev pub of_value : Option Value → ℕ
of_value None = 0
of_value (Some v) = value_octets v

-- The count after a call: the call itself, and what it returned. A call that is refused returned nothing, and doesn't count.
abbrev pub reads_after : {X E : Type 0} → (X → ℕ) → Result X E → ℕ → ℕ
reads_after given (Ok x) n = at_most_u64 (n + (CALL_OCTETS + given x))
reads_after given (Err e) n = n
