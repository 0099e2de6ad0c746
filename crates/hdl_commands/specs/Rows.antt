-- A row of a CSV file: the value that it says, and the request that creates a handle of its rows.
use Rattle.std.specs.Prelude.{◌≡◌, ◌≢◌, ℕ, ◌==◌, if◌then◌else◌, List, [], ◌∷◌, ◌++◌, length, map, All, codes, Option, Some, None, IfSome, option_map, option_and_then, Result, ok_or}
use Rattle.std.specs.Bool.{MatchBool}
use Rattle.std.specs.Char.{to_ascii_lowercase}
use Rattle.std.specs.Int.{w16, to_be_bytes}
use Rattle.std.specs.List.{list_any}
use Rattle.csv.specs.Machine.{next_record}
use Rattle.csv.specs.Reading.{default_config, strip_bom}
use Rattle.csv.specs.Records.{field_at}
use Rattle.csv.specs.declared.parser.State.TheVariants.{StartRecord}
use Rattle.hdl_value.specs.declared.references.RawRef.{RawRef}
use Rattle.hdl_value.specs.declared.value.Value.{Value}
use Rattle.hdl_value.specs.declared.wire.Wire.{Wire}
use Rattle.hdl_value.specs.Data.{admin_kind}
use Rattle.hdl_value.specs.Refs.{is_admin}
use Rattle.hdl_value.specs.Spelling.{reference}
use Rattle.hdl_msg.specs.declared.request_body.RequestBody.TheVariants.{Create}
use Rattle.hdl_msg.specs.RequestBody.{request_message}
use Rattle.hdl_client.specs.Challenge.{plain_header}
use Rattle.hdl_value_lines.specs.declared.fault.LineFault.{LineFault}
use Rattle.hdl_value_lines.specs.declared.fault.LineFault.TheVariants as fault
use Rattle.hdl_value_lines.specs.Fields.{number_in, permissions_in}
use Rattle.hdl_value_lines.specs.Lines.{◌>>=◌, value_of, value_by_type}
use Rattle.hdl_commands.specs.declared.imports.columns.Columns.{Columns}

-- the fields of a line of CSV (RFC 4180) with this octet between them, a byte order mark aside
abbrev pub fields_in : ℕ → List ℕ → Option (List (List ℕ))
fields_in separator line = option_map (λ read. read.0) (next_record (record default_config { delimiter = separator }) StartRecord [] [] (strip_bom line))

-- the name of the column at a place, in small letters
abbrev pub name_at : List (List ℕ) → ℕ → Option (List ℕ)
name_at names place = option_map (λ name. map to_ascii_lowercase name) (field_at names place)

-- The columns stand where the header names them, in letters of any case.
pub record AreNamed (names : List (List ℕ)) (columns : Columns) : Type 0 where
  pub handle : name_at names columns.handle ≡ Some (codes "handle")
  pub kind : name_at names columns.kind ≡ Some (codes "type")
  pub bytes : name_at names columns.bytes ≡ Some (codes "data")
  pub ttl : IfSome columns.ttl (λ place. name_at names place ≡ Some (codes "ttl"))
  pub index : IfSome columns.index (λ place. name_at names place ≡ Some (codes "index"))
  pub permissions : IfSome columns.permissions (λ place. name_at names place ≡ Some (codes "permissions"))

-- the index of a row: that of its column, or without one how manieth row of its handle it is
abbrev pub index_in : Option ℕ → ℕ → List (List ℕ) → Option ℕ
index_in None place fields = Some place
index_in (Some column) place fields = option_and_then number_in (field_at fields column)

-- its TTL: that of its column; if there is no column, or an empty field, the one that is given for such rows
abbrev pub ttl_in : ℕ → List ℕ → Option ℕ
ttl_in unsaid field = if length field == 0 then Some unsaid else number_in field

abbrev pub ttl_of : ℕ → Option ℕ → List (List ℕ) → Option ℕ
ttl_of unsaid None fields = Some unsaid
ttl_of unsaid (Some column) fields = option_and_then (ttl_in unsaid) (field_at fields column)

-- its permissions: those of their column, or without one 1110
abbrev pub permissions_of : Option ℕ → List (List ℕ) → Option ℕ
permissions_of None fields = Some 14
permissions_of (Some column) fields = option_and_then permissions_in (field_at fields column)

-- the value of a row, or the first of its fields that is wrong
unfoldable pub value_in_row : Columns → ℕ → ℕ → List (List ℕ) → Result Value LineFault
value_in_row columns unsaid place fields = do
  index ← ok_or (index_in columns.index place fields) fault.Index
  kind ← ok_or (field_at fields columns.kind) fault.Type
  ttl ← ok_or (ttl_of unsaid columns.ttl fields) fault.Ttl
  permissions ← ok_or (permissions_of columns.permissions fields) fault.Permissions
  text ← ok_or (field_at fields columns.bytes) fault.Text
  value_by_type index kind ttl permissions text

-- an administrator who may do everything, by the key at this place
abbrev pub administrator : RawRef → ℕ → Value
administrator key index = value_of index admin_kind 86400 14 (to_be_bytes w16 4095 ++ reference key)

-- these rows' values, and, where none of them is an administrator, one at an index that none of them has
abbrev pub AreAdministered : RawRef → List Value → List Value → Type 0
AreAdministered key rows values = MatchBool (list_any is_admin rows) (values ≡ rows) ((index : ℕ) × All (λ v. v.index ≢ index) rows × (values ≡ rows ++ administrator key index ∷ []))

-- The message creates the handle with just such values, which stand by this layout.
pub record Creates (wire : Wire) (key : RawRef) (handle : List ℕ) (rows : List Value) (message : List ℕ) : Type 0 where
  pub values : List Value
  pub administered : AreAdministered key rows values
  pub spelt : message ≡ request_message wire plain_header (Create handle values)
