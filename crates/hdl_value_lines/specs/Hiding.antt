-- What of a value is shown: all of it, or of a key whose data isn't asked for its index, its type and how many octets the data has.
use Rattle.std.specs.Prelude.{ℕ, Bool, not, ◌&&◌, if◌then◌else◌, List, ◌++◌, length, codes, decimal, Option, Some, None}
use Rattle.hdl_value.specs.declared.value.Value.{Value}
use Rattle.hdl_value.specs.Refs.{is_secret_key}
use Rattle.hdl_value.specs.Tests.{is_sound}
use Rattle.hdl_value_lines.specs.Data.{format_and_data, data_text}
use Rattle.hdl_value_lines.specs.Lines.{has_fields, field, octets_text, line_of}

-- a key, where the data of keys isn't shown
abbrev pub is_hidden : Value → Bool → Bool
is_hidden v shows_keys = is_secret_key v && not shows_keys

-- ---- of a hidden key

-- that there is data, and how many octets, where that is known
abbrev pub hidden_data : Option ℕ → List ℕ
hidden_data None = codes "HIDDEN"
hidden_data (Some count) = codes "HIDDEN " ++ (decimal count ++ codes " octets")

-- index and type before it
abbrev pub hidden_text : ℕ → List ℕ → Option ℕ → List ℕ
hidden_text index kind count = field (decimal index) ++ (field kind ++ hidden_data count)

-- it is known of a sound value
abbrev pub hidden_count : Value → Option ℕ
hidden_count v = if is_sound v then Some (length v.bytes) else None

-- ---- of any other value

-- itself, if it is sound and fields say it
abbrev pub value_of_fields : Value → Option Value
value_of_fields v = if is_sound v && has_fields v then Some v else None

-- its line, and its data alone, as it stands there behind the format; all octets of a value that isn't sound
abbrev pub whole_line : Value → List ℕ
whole_line v = if is_sound v then line_of v else octets_text v

abbrev pub whole_data : Value → List ℕ
whole_data v = if is_sound v && has_fields v then (format_and_data (data_text v)).1 else octets_text v
