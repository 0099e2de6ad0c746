-- What the fields of a line are made of: words, numbers, binary digits, and how each is read.
use Rattle.std.specs.Prelude.{◌≡◌, ◌<◌, ◌++◌, ◌⊎◌, ℕ, zero, suc, ◌+◌, ◌-◌, ◌*◌, ◌/◌, ◌%◌, ◌^◌, ◌==◌, nat_lt, Bool, not, ◌&&◌, ◌||◌, if◌then◌else◌, List, [], ◌∷◌, length, slice_index, reverse, Option, Some, None, decimal}
use Rattle.std.specs.List.{list_all}
use Rattle.std.specs.Char.{is_control}
use Rattle.std.specs.Str.{bytes_eq, chars, is_utf8}
use Rattle.std.specs.Str.Parse.{digits_value, IsNumeral}
use Rattle.hdl_name.specs.Name.{IsHandle}
use Rattle.hdl_name.specs.Tests.{is_handle}
use Rattle.hdl_value.specs.Permission.{bits}
use Rattle.hdl_value.specs.Reading.{◌>>=◌}

-- ' ' stands between fields, ':' between the parts of a reference
abbrev pub space : ℕ
space = 32

abbrev pub colon : ℕ
colon = 58

-- one or more graphic ASCII octets
abbrev pub is_graphic : ℕ → Bool
is_graphic octet = nat_lt space octet && nat_lt octet 127

abbrev pub is_word : List ℕ → Bool
is_word octets = not (length octets == 0) && list_all is_graphic octets

-- a word that is the name of a handle
abbrev pub is_handle_word : List ℕ → Bool
is_handle_word octets = is_word octets && is_handle octets

-- text on one line, not empty, with no space at an end
abbrev pub is_printed : ℕ → Bool
is_printed character = not (is_control character)

abbrev pub has_end : ℕ → List ℕ → Bool
has_end octet octets = slice_index octets 0 == octet || slice_index octets (length octets - 1) == octet

abbrev pub is_line : List ℕ → Bool
is_line octets = is_utf8 octets && list_all is_printed (chars octets)

abbrev pub is_text : List ℕ → Bool
is_text octets = not (length octets == 0) && (not (has_end space octets) && is_line octets)

-- the octets before the first that is `stop`, and those behind it
abbrev pub cut_at : ℕ → List ℕ → Option (List ℕ × List ℕ)
cut_at stop [] = None
cut_at stop (octet ∷ octets) = if octet == stop then Some ([], octets) else (cut_at stop octets >>= λ x. Some (octet ∷ x.0, x.1))

-- the number below 2^32 that is written so in decimal
unfoldable pub number_in : List ℕ → Option ℕ
number_in word = if bytes_eq (decimal (digits_value 10 word)) word && nat_lt (digits_value 10 word) (2 ^ 32) then Some (digits_value 10 word) else None

-- ---- references to keys

-- the index, from 1 on, that decimal digits spell: leading zeros are allowed, and no sign
abbrev pub IsIndexOf : List ℕ → ℕ → Type 0
IsIndexOf digits index = IsNumeral 10 digits × (digits_value 10 digits ≡ index) × (0 < index) × (index < 2 ^ 32)

-- an index and the name of a handle with a colon between them, in either order
abbrev pub IsReferenceOf : List ℕ → ℕ → List ℕ → Type 0
IsReferenceOf words index handle = IsHandle handle × ((digits : List ℕ) × IsIndexOf digits index × ((words ≡ digits ++ colon ∷ handle) ⊎ (words ≡ handle ++ colon ∷ digits)))

-- ---- binary digits

-- the number of such digits
abbrev pub bit_in : ℕ → Option ℕ
bit_in digit = if digit == 48 then Some 0 else if digit == 49 then Some 1 else None

abbrev pub bits_in : List ℕ → Option ℕ
bits_in [] = Some 0
bits_in (digit ∷ digits) = do
  bit ← bit_in digit
  n ← bits_in digits
  Some (bit + 2 * n)

-- an administrator's mask is twelve digits, the lowest first
abbrev pub mask_in : List ℕ → Option ℕ
mask_in digits = if length digits == 12 then bits_in digits else None

-- a value's permissions are four, the highest first: administrator reads, administrator writes, anybody reads, anybody writes
abbrev pub permission_digits : ℕ → List ℕ
permission_digits n = reverse (bits 4 n)

abbrev pub permissions_in : List ℕ → Option ℕ
permissions_in digits = if length digits == 4 then bits_in (reverse digits) else None

-- ---- a field and the space behind it

unfoldable pub number_at : List ℕ → Option (ℕ × List ℕ)
number_at octets = do
  x ← cut_at space octets
  n ← number_in x.0
  Some (n, x.1)

unfoldable pub word_at : List ℕ → Option (List ℕ × List ℕ)
word_at octets = do
  x ← cut_at space octets
  if is_word x.0 then Some x else None

unfoldable pub permissions_at : List ℕ → Option (ℕ × List ℕ)
permissions_at octets = do
  x ← cut_at space octets
  n ← permissions_in x.0
  Some (n, x.1)
