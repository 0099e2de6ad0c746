-- The layouts of a value.
use Rattle.std.specs.Prelude.{ℕ, List, Option}
use Rattle.hdl_value.specs.Reading.{Layout}
use Rattle.hdl_value.specs.declared.value.Value.{Value}
use Rattle.hdl_value.specs.declared.wire.Wire.{Wire}
use Rattle.hdl_value.specs.declared.wire.Wire.TheVariants.{Profile, HandleNet}
use Rattle.hdl_value.specs.Spelling.{value_at, spelling, Fits}
use Rattle.hdl_value.specs.HandleNet.{net_value_at, net_spelling, NetFits, by_second}

abbrev pub wire_value_at : Wire → List ℕ → Option (Value × List ℕ)
wire_value_at Profile octets = value_at octets
wire_value_at HandleNet octets = net_value_at octets

abbrev pub wire_spelling : Wire → Value → List ℕ
wire_spelling Profile v = spelling v
wire_spelling HandleNet v = net_spelling v

abbrev pub wire_layout : Wire → Layout Value
wire_layout wire = record { read = wire_value_at wire; write = wire_spelling wire }

-- each part of the value fits its field
abbrev pub WireFits : Wire → Value → Type 0
WireFits Profile v = Fits v
WireFits HandleNet v = NetFits v

-- the value as its reader sees it
abbrev pub wire_seen : Wire → Value → Value
wire_seen Profile v = v
wire_seen HandleNet v = by_second v
