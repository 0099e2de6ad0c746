-- What a line says, and the line of a value.
use Rattle.std.specs.Prelude.{◌≡◌, ◌≢◌, ◌⊎◌, ℕ, ◌^◌, ◌==◌, nat_lt, Bool, ◌&&◌, if◌then◌else◌, List, [], ◌∷◌, ◌++◌, length, drop, slice_index, codes, decimal, Result, Ok, Err, ok_or}
use Rattle.std.specs.Int.{w32, to_be_bytes, from_be_bytes}
use Rattle.std.specs.Str.{bytes_eq}
use Rattle.hex.specs.Hex.{encode_lower}
use Rattle.hdl_value.specs.declared.value.Value.{Value}
use Rattle.hdl_value.specs.declared.fault.ValueFault.{ValueFault}
use Rattle.hdl_value.specs.declared.fault.ValueFault.TheVariants as value_fault
use Rattle.hdl_value.specs.Spelling.{spelling, value_at}
use Rattle.hdl_value.specs.Reading.{whole_of}
use Rattle.hdl_value.specs.Fault.{IsFirstFault}
use Rattle.hdl_value_lines.specs.declared.data.Format.{Format}
use Rattle.hdl_value_lines.specs.declared.data.Format.TheVariants as format
use Rattle.hdl_value_lines.specs.declared.fault.LineFault.{LineFault}
use Rattle.hdl_value_lines.specs.declared.fault.LineFault.TheVariants as fault
use Rattle.hdl_value_lines.specs.Fields.{space, is_word, cut_at, number_in, permission_digits, number_at, word_at, permissions_at}
use Rattle.hdl_value_lines.specs.Data.{format_named, format_of, format_and_data, data_by, hex_in, data_text}

-- what follows a step, or the fault of the step
infixl 10 ◌>>=◌
abbrev pub ◌>>=◌ : {A B : Type 0} → Result A LineFault → (A → Result B LineFault) → Result B LineFault
Ok x >>= f = f x
Err e >>= f = Err e

-- ---- what a line says

-- the fault of data that isn't of its format
abbrev pub data_fault : Format → LineFault
data_fault format.Utf8 = fault.Text
data_fault format.Admin = fault.Admin
data_fault format.List = fault.List
data_fault format.Hex = fault.Hex
data_fault format.Hidden = fault.Hidden

unfoldable pub data_in : List ℕ → Result (List ℕ) LineFault
data_in text = do
  f ← ok_or (format_named (format_and_data text).0) fault.Format
  ok_or (data_by f (format_and_data text).1) (data_fault f)

-- the value without its timestamp
abbrev pub without_stamp : Value → Value
without_stamp v = record v { timestamp = 0 }

-- a value by its octets
unfoldable pub value_in_octets : List ℕ → Result Value LineFault
value_in_octets octets = do
  v ← ok_or (whole_of value_at octets) fault.Octets
  Ok (without_stamp v)

unfoldable pub value_in_digits : List ℕ → Result Value LineFault
value_in_digits digits = ok_or (hex_in digits) fault.Octets >>= value_in_octets

-- the fault of a TTL that is none: HIDDEN in its place says that the data isn't there
abbrev pub ttl_fault : List ℕ → LineFault
ttl_fault text = if bytes_eq (format_and_data text).0 (codes "HIDDEN") then fault.Hidden else fault.Ttl

-- the value of these parts
abbrev pub value_of : ℕ → List ℕ → ℕ → ℕ → List ℕ → Value
value_of index kind ttl permissions bytes = record { index = index; kind = kind; bytes = bytes; ttl = 0 ∷ to_be_bytes w32 ttl; permissions = permissions; timestamp = 0; references = [] }

-- the data of a type that is a word, in words
abbrev pub data_of : List ℕ → List ℕ → Result (List ℕ) LineFault
data_of kind text = if is_word kind then ok_or (data_by (format_of kind) text) (data_fault (format_of kind)) else Err fault.Type

-- the value of these parts, its data in words by the format of its type
unfoldable pub value_by_type : ℕ → List ℕ → ℕ → ℕ → List ℕ → Result Value LineFault
value_by_type index kind ttl permissions text = do
  bytes ← data_of kind text
  Ok (value_of index kind ttl permissions bytes)

-- TYPE TTL PERMISSIONS FORMAT DATA
unfoldable pub value_in_fields : ℕ → List ℕ → Result Value LineFault
value_in_fields index text = do
  kind ← ok_or (word_at text) fault.Type
  ttl ← ok_or (number_at kind.1) (ttl_fault kind.1)
  permissions ← ok_or (permissions_at ttl.1) fault.Permissions
  bytes ← data_in permissions.1
  Ok (value_of index kind.0 ttl.0 permissions.0 bytes)

-- the value that a line says, sound or not, or the first field that is wrong
unfoldable pub value_in : List ℕ → Result Value LineFault
value_in line = do
  first ← ok_or (cut_at space line) fault.Index
  if bytes_eq first.0 (codes "OCTETS") then value_in_digits first.1 else (ok_or (number_in first.0) fault.Index >>= λ index. value_in_fields index first.1)

-- why nothing is read: there was no memory; a field is wrong; or the value that is said isn't sound, and this is its first fault
abbrev pub IsFaultIn : Result Value LineFault → LineFault → Type 0
IsFaultIn said e = (e ≡ fault.Memory) ⊎ (said ≡ Err e) ⊎ ((v : Value) × (f : ValueFault) × (said ≡ Ok v) × IsFirstFault v f × (f ≢ value_fault.Memory) × (e ≡ fault.Value f))

-- ---- the line of a value

-- the TTL is relative, no upper permission bit is set, there are no references, and the type is a word
abbrev pub has_fields : Value → Bool
has_fields v = slice_index v.ttl 0 == 0 && nat_lt v.permissions (2 ^ 4) && length v.references == 0 && is_word v.kind

-- INDEX TYPE TTL PERMISSIONS, and a space behind each
abbrev pub field : List ℕ → List ℕ
field octets = octets ++ space ∷ []

unfoldable pub fields_text : Value → List ℕ
fields_text v = field (decimal v.index) ++ (field v.kind ++ (field (decimal (from_be_bytes w32 (drop 1 v.ttl))) ++ field (permission_digits v.permissions)))

abbrev pub octets_text : Value → List ℕ
octets_text v = codes "OCTETS " ++ encode_lower (spelling v)

unfoldable pub line_of : Value → List ℕ
line_of v = if has_fields v then fields_text v ++ data_text v else octets_text v
