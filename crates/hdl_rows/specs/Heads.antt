-- The heads of values: all but their data and their references.
use Rattle.std.specs.Prelude.{ℕ, List, [], map}
use Rattle.hdl_value.specs.declared.value.Value.{Value}
use Rattle.hdl_rows.specs.Table.{Table, values_of}

abbrev pub head : Value → Value
head v = record v { bytes = []; references = [] }

-- the heads of a handle's values, by rising index
abbrev pub heads_of : Table → List ℕ → List Value
heads_of t h = map head (values_of t h)
