-- What handles and their values count: handles, values, and octets.
use Rattle.std.specs.Prelude.{ℕ, ◌+◌, ◌-◌, List, length, sum_by, Bool, ◌&&◌, ◌||◌, nat_le, nat_lt, ◌==◌, if◌then◌else◌}
use Rattle.std.specs.Option.{option_map_or}
use Rattle.hdl_value.specs.declared.references.RawRef.{RawRef}
use Rattle.hdl_value.specs.declared.value.Value.{Value}
use Rattle.hdl_rows.specs.Table.{most, value_with}
use Rattle.hdl_boundedrows.specs.declared.amount.TheConstants.{ROW_OCTETS, REFERENCE_OCTETS}
use Rattle.hdl_limits.specs.Counts.{at_most_u64}

-- A way of counting: what a handle counts by itself, and what each of its values does.
pub record Measure : Type 0 where
  pub handle : List ℕ → ℕ
  pub value : Value → ℕ

-- a handle is one, and a value by itself none
abbrev pub in_handles : Measure
in_handles = record { handle = λ _. 1; value = λ _. 0 }

-- a value is one, and a handle by itself none
abbrev pub in_values : Measure
in_values = record { handle = λ _. 0; value = λ _. 1 }

-- a reference: a fixed sum, and its handle
abbrev pub reference_octets : RawRef → ℕ
reference_octets r = REFERENCE_OCTETS + length r.handle

-- a value: a fixed sum, its type, its data and its references
abbrev pub value_octets : Value → ℕ
value_octets v = ROW_OCTETS + length v.kind + length v.bytes + sum_by reference_octets v.references

-- a handle: a fixed sum, and its name
abbrev pub handle_octets : List ℕ → ℕ
handle_octets h = ROW_OCTETS + length h

abbrev pub in_octets : Measure
in_octets = record { handle = handle_octets; value = value_octets }

-- a handle with these values
abbrev pub with_handle : Measure → List ℕ → List Value → ℕ
with_handle m h vs = m.handle h + sum_by m.value vs

-- the value of this index among these, nothing where there is none
abbrev pub value_at : Measure → List Value → ℕ → ℕ
value_at m vs i = option_map_or m.value (value_with i vs) 0

-- the values of these indexes among these
abbrev pub values_at : Measure → List Value → List ℕ → ℕ
values_at m vs is = sum_by (value_at m vs) is

-- ---- counts of 64 bits

-- A count once this was given back and that was gained. The greatest stays: nobody knows for how much it stands.
abbrev pub moved_count : ℕ → ℕ → ℕ → ℕ
moved_count held gain back = if held == most then most else at_most_u64 (held - back + gain)

-- whether a count may become another one: it is known then, and within the bound or no more than before
abbrev pub may_become : ℕ → ℕ → ℕ → Bool
may_become bound held next = nat_lt next most && (nat_le next bound || nat_le next held)
