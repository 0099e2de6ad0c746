-- The layout of a value that, to our knowledge, the Handle.Net software has (docs/PROTOCOL.md, "Values"): its timestamp is in seconds, and stands with TTL and
-- permission before type and data. A value is the same value in both layouts, but that a moment is seen by its second.
use Rattle.std.specs.Prelude.{◌≡◌, ℕ, ◌*◌, ◌/◌, ◌^◌, ◌-◌, List, ◌++◌, Option, Some, nat_lt, if◌then◌else◌}
use Rattle.std.specs.Int.{w32}
use Rattle.hdl_value.specs.Reading.{Layout, octets_layout, number_layout, octet_layout, pair_layout, seen_layout, named_layout}
use Rattle.hdl_value.specs.declared.references.RawRef.{RawRef}
use Rattle.hdl_value.specs.declared.value.Value.{Value}
use Rattle.hdl_value.specs.Spelling.{string_layout, refs_fields, refs_at, Fits}

-- ---- moments

-- the second of a moment in milliseconds; the last second that four octets can count is that of all later moments
abbrev pub second_of : ℕ → ℕ
second_of moment = if nat_lt (moment / 1000) (2 ^ 32) then moment / 1000 else 2 ^ 32 - 1

-- the moment at which a second begins
abbrev pub moment_of : ℕ → ℕ
moment_of second = second * 1000

abbrev pub second_layout : Layout ℕ
second_layout = seen_layout moment_of second_of (number_layout w32)

unfoldable pub second_at : List ℕ → Option (ℕ × List ℕ)
second_at octets = second_layout.read octets

-- ---- values: index, timestamp, TTL, permission, type, data, references

-- the fields, nested in their order
abbrev pub NetFields : Type 0
NetFields = ℕ × (ℕ × (List ℕ × (ℕ × (List ℕ × (List ℕ × List RawRef)))))

abbrev pub net_value_of : NetFields → Value
net_value_of x = record { index = x.0; kind = x.1.1.1.1.0; bytes = x.1.1.1.1.1.0; ttl = x.1.1.0; permissions = x.1.1.1.0; timestamp = x.1.0; references = x.1.1.1.1.1.1 }

abbrev pub net_fields_of : Value → NetFields
net_fields_of v = (v.index, (v.timestamp, (v.ttl, (v.permissions, (v.kind, (v.bytes, v.references))))))

abbrev pub net_fields : Layout Value
net_fields = seen_layout net_value_of net_fields_of
    (pair_layout (number_layout w32) (pair_layout (named_layout second_layout second_at) (pair_layout (octets_layout 5) (pair_layout octet_layout
    (pair_layout string_layout (pair_layout string_layout (named_layout refs_fields refs_at)))))))

unfoldable pub net_value_at : List ℕ → Option (Value × List ℕ)
net_value_at octets = net_fields.read octets

unfoldable pub net_spelling : Value → List ℕ
net_spelling v = net_fields.write v

-- ---- what is read again as it was written

-- the moment is the start of a second, and four octets can count that second
abbrev pub IsSecond : ℕ → Type 0
IsSecond moment = moment_of (second_of moment) ≡ moment

-- each part of the value fits its field
pub record NetFits (v : Value) : Type 0 where
  pub fits : Fits v
  pub second : IsSecond v.timestamp

-- the value as it is read again: its moment is cut to the second
abbrev pub by_second : Value → Value
by_second v = record v { timestamp = moment_of (second_of v.timestamp) }

-- If a value is written, it is read as that value, with its moment cut to the second.
abbrev pub IsReadBySecond : Type 0
IsReadBySecond = (v : Value) (rest : List ℕ) → Fits v → net_value_at (net_spelling v ++ rest) ≡ Some (by_second v, rest)
