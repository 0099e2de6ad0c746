-- What the members of a value in JSON say.
use Rattle.std.specs.Prelude.{ℕ, ◌^◌, nat_lt, if◌then◌else◌, List, codes, Option, Some, None, unwrap_or, is_some}
use Rattle.std.specs.Option.{option_and_then}
use Rattle.serde_json.specs.Data.{Data}
use Rattle.serde_json.specs.Find.{get, as_str, as_number, as_u64}
use Rattle.hdl_value.specs.Reading.{◌>>=◌}
use Rattle.hdl_proxy.specs.Words.{usual_permissions}
use Rattle.hdl_value_lines.specs.Fields.{number_in as decimal_in, permissions_in as digits_in}

-- a number where it is less than 2^32
abbrev pub small : ℕ → Option ℕ
small n = if nat_lt n (2 ^ 32) then Some n else None

-- the number that is meant: a number, or the text of its decimal digits without a leading zero
abbrev pub number_in_json : Data → Option ℕ
number_in_json d = if is_some (as_number d >>= as_u64) then (as_number d >>= as_u64 >>= small) else (as_str d >>= decimal_in)

-- a member that is a number
abbrev pub number_of : List ℕ → Data → Option ℕ
number_of key d = get key d >>= number_in_json

-- a member that is text
abbrev pub text_of : List ℕ → Data → Option (List ℕ)
text_of key d = get key d >>= as_str

-- how many seconds a value may be kept where it isn't said: a day
abbrev pub day : ℕ
day = 86400

abbrev pub ttl_in_json : Option Data → Option ℕ
ttl_in_json None = Some day
ttl_in_json (Some d) = number_in_json d

-- four digits, and where none are said the usual permissions of the type
abbrev pub permissions_in_json : List ℕ → Option Data → Option ℕ
permissions_in_json kind None = Some (usual_permissions kind)
permissions_in_json kind (Some d) = as_str d >>= digits_in
