-- URLs that begin otherwise: the new data, and the values that are to be modified.
use Rattle.std.specs.Prelude.{◌≡◌, ℕ, if◌then◌else◌, List, ◌++◌, length, take, drop, codes, Option, Some, None, option_map}
use Rattle.std.specs.List.{filter_map}
use Rattle.std.specs.Str.{bytes_eq}
use Rattle.csv.specs.Records.{field_at}
use Rattle.hdl_value.specs.declared.value.Value.{Value}
use Rattle.hdl_commands.specs.declared.imports.columns.Columns.{Columns}
use Rattle.hdl_commands.specs.Rows.{fields_in, value_in_row}
use Rattle.hdl_commands.specs.Update.{is_same}
use Rattle.std.specs.Prelude.{true, Ok}

-- data that begins with the first begins with the second instead; other data stays
abbrev pub replaced_data : List ℕ → List ℕ → List ℕ → Option (List ℕ)
replaced_data old new octets = if bytes_eq (take (length old) octets) old then Some (new ++ drop (length old) octets) else None

-- a URL with such data, and else as it was
abbrev pub with_data : Value → List ℕ → Value
with_data v octets = record v { bytes = octets }

abbrev pub replaced : List ℕ → List ℕ → Value → Option Value
replaced old new v = if bytes_eq v.kind (codes "URL") then option_map (with_data v) (replaced_data old new v.bytes) else None

-- of these values those that are to be modified, as they are afterwards
abbrev pub all_replaced : List ℕ → List ℕ → List Value → List Value
all_replaced old new vs = filter_map (replaced old new) vs

-- the columns of a row that is written
abbrev pub written_columns : Columns
written_columns = record { handle = 0; kind = 2; bytes = 3; ttl = Some 4; index = Some 1; permissions = Some 5 }

-- The row is read as the value, whenever that was written, of the handle.
pub record IsRowOf (handle : List ℕ) (v : Value) (row : List ℕ) : Type 0 where
  pub fields : List (List ℕ)
  pub cut : fields_in 44 row ≡ Some fields
  pub named : field_at fields 0 ≡ Some handle
  pub back : Value
  pub read : value_in_row written_columns 0 1 fields ≡ Ok back
  pub same : is_same back v ≡ true
