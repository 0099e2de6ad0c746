-- The values before a change.
use Rattle.std.specs.Prelude.{List, ℕ}
use Rattle.std.specs.List.{filter_map}
use Rattle.hdl_rows.specs.Table.{Table, at, place}
use Rattle.hdl_value.specs.declared.value.Value.{Value}

-- the values that stand at these indexes of a handle, in the order of the indexes
abbrev pub standing : Table → List ℕ → List ℕ → List Value
standing t h = filter_map (λ i. at t (place h i))
