-- The numbers of a value in words, and octets as text.
use Rattle.std.specs.Prelude.{◌≡◌, ◌≢◌, ℕ, ◌+◌, ◌*◌, ◌/◌, ◌%◌, ℤ, pos, List, [], ◌∷◌, ◌++◌, drop, slice_index, take, if◌then◌else◌, Option, Some, None, string_bytes}
use Rattle.std.specs.Int.{w32, from_be_bytes}
use Rattle.std.specs.Str.{is_utf8}
use Rattle.hex.specs.Hex.{encode_lower}
use Rattle.jiff_core.specs.declared.civil.datetime.DateTime.{DateTime}
use Rattle.jiff_core.specs.DateTime.{civil_nanos}
use Rattle.jiff_core.specs.Timestamp.{IsTimestampNanos}
use Rattle.jiff_fmt.specs.Text.{datetime_text, zulu_text}
use Rattle.std.specs.Prelude.{false}
use Rattle.std.specs.Str.{bytes_eq}
use Rattle.hdl_value.specs.Data.{secret_key_kind}
use Rattle.hdl_value.specs.Permission.{bits}
use Rattle.hdl_value.specs.declared.value.Value.{Value}
use Rattle.hdl_proxy.specs.declared.words.CacheLifetime.{CacheLifetime}
use Rattle.hdl_proxy.specs.declared.words.CacheLifetime.TheVariants.{Seconds, Until}

-- ---- octets

-- octets as text: as they are where they are text, and else their hexadecimal digits
abbrev pub text_of : List ℕ → List ℕ
text_of octets = if is_utf8 octets then octets else encode_lower octets

-- ---- permissions

-- an administrator's permissions are twelve binary digits, the lowest first
abbrev pub permission_digits : ℕ → List ℕ
permission_digits mask = bits 12 mask

-- those of a value are four, the highest first: administrator reads, administrator writes, anybody reads, anybody writes
abbrev pub value_digits : ℕ → List ℕ
value_digits n = (48 + n / 8 % 2) ∷ (48 + n / 4 % 2) ∷ (48 + n / 2 % 2) ∷ (48 + n % 2) ∷ []

-- The permissions where none are said: an administrator reads and writes, and anybody reads what is no key.
abbrev pub usual_permissions : List ℕ → ℕ
usual_permissions kind = if bytes_eq kind secret_key_kind then 12 else 14

-- ---- moments

-- the words are this moment in RFC 3339, in nanoseconds since 1970: what a clock at UTC shows then, and Z
abbrev pub IsMomentText : ℤ → List ℕ → Type 0
IsMomentText nanoseconds words =
    (shown : DateTime) × (civil_nanos shown ≡ nanoseconds) × (words ≡ datetime_text false 84 None shown ++ zulu_text false)

-- the words are when the value was written, by its timestamp in milliseconds, in whole seconds; there are none where the calendar hasn't that moment
abbrev pub written_at : Value → ℤ
written_at v = pos (v.timestamp / 1000 * 1_000_000_000)

abbrev pub IsWritten : Value → Option (List ℕ) → Type 0
IsWritten v None = ¬ IsTimestampNanos (written_at v)
IsWritten v (Some words) = IsMomentText (written_at v) words

-- the day of a moment in RFC 3339: its first ten octets
abbrev pub day_of : List ℕ → List ℕ
day_of words = take 10 words

-- how long a value may be kept (RFC 3651, section 3.1): kind 1 of TTL is a moment in seconds, every other kind counts seconds
abbrev pub ttl_kind : Value → ℕ
ttl_kind v = slice_index v.ttl 0

abbrev pub ttl_seconds : Value → ℕ
ttl_seconds v = from_be_bytes w32 (drop 1 v.ttl)

abbrev pub IsCacheLifetime : Value → CacheLifetime → Type 0
IsCacheLifetime v (Seconds n) = (ttl_kind v ≢ 1) × (n ≡ ttl_seconds v)
IsCacheLifetime v (Until words) = (ttl_kind v ≡ 1) × IsMomentText (pos (ttl_seconds v * 1_000_000_000)) (string_bytes words)
