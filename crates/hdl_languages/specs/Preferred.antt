-- Which language a request prefers by its field Accept-Language (RFC 9110, section 12.5.4).
use Rattle.std.specs.Prelude.{ℕ, ◌+◌, ◌*◌, ◌-◌, ◌==◌, ◌&&◌, ◌||◌, nat_le, nat_lt, Bool, List, [], ◌∷◌, Option, Some, None, codes, eqb, max, slice_get, unwrap_or, if◌then◌else◌}
use Rattle.std.specs.List.{slice_split, starts_with}
use Rattle.std.specs.Str.{bytes_eq, is_utf8, str_to_ascii_lowercase, trim}
use Rattle.hdl_languages.specs.declared.language.Language.{Language}
use Rattle.hdl_languages.specs.declared.language.Language.TheVariants.{English, German}

-- the language that an operator calls so
abbrev pub language_called : List ℕ → Option Language
language_called word =
    if bytes_eq word (codes "en") then Some English
    else if bytes_eq word (codes "de") then Some German
    else None

-- the elements of a field, between its commas, and the parts of an element, between its semicolons
abbrev pub elements_of : List ℕ → List (List ℕ)
elements_of field = slice_split (λ octet. octet == 44) field

abbrev pub parts_of : List ℕ → List (List ℕ)
parts_of element = slice_split (λ octet. octet == 59) element

-- the part of this place, without blanks at its ends, and nothing behind the last
abbrev pub trimmed : Option (List ℕ) → List ℕ
trimmed None = []
trimmed (Some part) = trim part

abbrev pub part_at : List (List ℕ) → ℕ → List ℕ
part_at parts place = trimmed (slice_get parts place)

-- the decimal digit of this place, and 0 where there is none
abbrev pub digit_of : Option ℕ → ℕ
digit_of None = 0
digit_of (Some octet) = if nat_le 48 octet && nat_le octet 57 then octet - 48 else 0

abbrev pub digit_at : List ℕ → ℕ → ℕ
digit_at text place = digit_of (slice_get text place)

-- the weight that a part such as `q=0.7` says, in thousandths; any other part says none, which is 1
abbrev pub weight_in : List ℕ → ℕ
weight_in part =
    if starts_with eqb part (codes "q=") then digit_at part 2 * 1000 + digit_at part 4 * 100 + digit_at part 5 * 10 + digit_at part 6
    else 1000

-- a range is of a language: its tag, or more of one. The star, which is for all languages, counts for English
abbrev pub is_language : Language → List ℕ → Bool
is_language English range = bytes_eq range (codes "en") || bytes_eq range (codes "*") || starts_with eqb range (codes "en-")
is_language German range = bytes_eq range (codes "de") || starts_with eqb range (codes "de-")

-- how much an element weighs for a language: what its second part says, if its first one is a range of it
abbrev pub weight_of : Language → List ℕ → ℕ
weight_of language element = if is_language language (part_at (parts_of element) 0) then weight_in (part_at (parts_of element) 1) else 0

-- the highest weight of these elements
abbrev pub highest : Language → List (List ℕ) → ℕ
highest language [] = 0
highest language (element ∷ elements) = max (weight_of language element) (highest language elements)

-- German if that weighs more than English
abbrev pub preferred_among : List (List ℕ) → Language
preferred_among elements = if nat_lt (highest English elements) (highest German elements) then German else English

-- letters are of any case
abbrev pub preferred_in : List ℕ → Language
preferred_in field = preferred_among (elements_of (str_to_ascii_lowercase field))

-- English where the field is no text, or absent
abbrev pub preferred_by : List ℕ → Language
preferred_by field = if is_utf8 field then preferred_in field else English

abbrev pub preferred : Option (List ℕ) → Language
preferred None = English
preferred (Some field) = preferred_by field
