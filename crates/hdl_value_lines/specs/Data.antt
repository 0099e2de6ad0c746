-- The data of a value in words: how each format is read, and which one says it.
use Rattle.std.specs.Prelude.{ℕ, ◌^◌, ◌==◌, nat_lt, Bool, not, ◌&&◌, if◌then◌else◌, List, [], ◌∷◌, ◌++◌, length, codes, decimal, Option, Some, None, unwrap_or}
use Rattle.std.specs.Option.{option_map}
use Rattle.std.specs.Result.{result_ok}
use Rattle.std.specs.List.{list_all, flat_map, slice_split}
use Rattle.std.specs.Int.{w16, to_be_bytes}
use Rattle.std.specs.Str.{bytes_eq}
use Rattle.hex.specs.Hex.{decode_of, encode_lower}
use Rattle.hdl_value.specs.declared.references.RawRef.{RawRef}
use Rattle.hdl_value.specs.declared.value.Value.{Value}
use Rattle.hdl_value.specs.Spelling.{reference, references}
use Rattle.hdl_value.specs.Reading.{◌>>=◌}
use Rattle.hdl_value.specs.Data.{admin_kind, list_kind}
use Rattle.hdl_value.specs.Refs.{admin_read, list_read}
use Rattle.hdl_value_lines.specs.declared.data.Format.{Format}
use Rattle.hdl_value_lines.specs.declared.data.Format.TheVariants as format
use Rattle.hdl_value.specs.Permission.{bits}
use Rattle.hdl_value_lines.specs.Fields.{space, colon, is_word, is_text, is_handle_word, cut_at, number_in, mask_in}

-- ---- data, by its format

-- the format of a name
abbrev pub format_named : List ℕ → Option Format
format_named word =
    if bytes_eq word (codes "UTF8") then Some format.Utf8
    else if bytes_eq word (codes "ADMIN") then Some format.Admin
    else if bytes_eq word (codes "LIST") then Some format.List
    else if bytes_eq word (codes "HEX") then Some format.Hex
    else if bytes_eq word (codes "HIDDEN") then Some format.Hidden
    else None

-- that of a type's data, where none is named
abbrev pub format_of : List ℕ → Format
format_of kind = if bytes_eq kind admin_kind then format.Admin else if bytes_eq kind list_kind then format.List else format.Utf8

-- text as it is
abbrev pub text_in : List ℕ → Option (List ℕ)
text_in text = if is_text text then Some text else None

-- INDEX:MASK:HANDLE
unfoldable pub admin_parts : List ℕ → Option (ℕ × RawRef)
admin_parts text = do
  i ← cut_at colon text
  index ← number_in i.0
  m ← cut_at colon i.1
  mask ← mask_in m.0
  if is_handle_word m.1 then Some (mask, record { handle = m.1; index = index }) else None

abbrev pub admin_in : List ℕ → Option (List ℕ)
admin_in text = option_map (λ x. to_be_bytes w16 x.0 ++ reference x.1) (admin_parts text)

-- INDEX:HANDLE
unfoldable pub reference_in : List ℕ → Option RawRef
reference_in word = do
  i ← cut_at colon word
  index ← number_in i.0
  if is_handle_word i.1 then Some (record { handle = i.1; index = index }) else None

-- what each says, if each says something
abbrev pub each_in : List (List ℕ) → Option (List RawRef)
each_in [] = Some []
each_in (word ∷ words) = do
  r ← reference_in word
  rs ← each_in words
  Some (r ∷ rs)

-- one or more references with a space between
abbrev pub references_in : List ℕ → Option (List RawRef)
references_in text = each_in (slice_split (λ octet. octet == space) text)

abbrev pub list_in : List ℕ → Option (List ℕ)
list_in text = references_in text >>= λ rs. (if nat_lt (length rs) (2 ^ 32) then Some (references rs) else None)

-- hexadecimal digits
abbrev pub hex_in : List ℕ → Option (List ℕ)
hex_in digits = result_ok (decode_of digits)

abbrev pub data_by : Format → List ℕ → Option (List ℕ)
data_by format.Utf8 text = text_in text
data_by format.Admin text = admin_in text
data_by format.List text = list_in text
data_by format.Hex text = hex_in text
data_by format.Hidden text = None

-- FORMAT, and DATA behind a space
abbrev pub format_and_data : List ℕ → List ℕ × List ℕ
format_and_data text = unwrap_or (cut_at space text) (text, [])

-- ---- data in words

-- INDEX:MASK:HANDLE of an administrator, where twelve digits and a word say it
abbrev pub admin_words : ℕ × RawRef → Option (List ℕ)
admin_words x = if nat_lt x.0 (2 ^ 12) && is_word x.1.handle then Some (codes "ADMIN " ++ (decimal x.1.index ++ colon ∷ (bits 12 x.0 ++ colon ∷ x.1.handle))) else None

abbrev pub admin_text : Value → Option (List ℕ)
admin_text v = admin_read v >>= admin_words

-- INDEX:HANDLE of each reference of a list, where there is one and words say them
abbrev pub reference_text : RawRef → List ℕ
reference_text r = decimal r.index ++ colon ∷ r.handle

abbrev pub have_words : List RawRef → Bool
have_words rs = not (length rs == 0) && list_all (λ r. is_word r.handle) rs

abbrev pub list_words : List RawRef → Option (List ℕ)
list_words rs = if have_words rs then Some (codes "LIST" ++ flat_map (λ r. space ∷ reference_text r) rs) else None

abbrev pub list_text : Value → Option (List ℕ)
list_text v = list_read v >>= list_words

-- any data
abbrev pub plain_text : List ℕ → List ℕ
plain_text octets =
    if is_text octets then codes "UTF8 " ++ octets
    else if length octets == 0 then codes "HEX"
    else codes "HEX " ++ encode_lower octets

unfoldable pub data_text : Value → List ℕ
data_text v = unwrap_or (admin_text v) (unwrap_or (list_text v) (plain_text v.bytes))
