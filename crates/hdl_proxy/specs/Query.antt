-- What the query of an address says, after the URL Standard, section 5.1.
use Rattle.std.specs.Prelude.{◌≡◌, ◌<◌, ◌^◌, ℕ, Bool, List, [], ◌∷◌, ◌++◌, All, Option, Some, None, String, map, filter_map, bytes_eq, codes, unwrap_or, string_bytes, if◌then◌else◌}
use Rattle.std.specs.Global.{Global, Vec}
use Rattle.std.specs.List.{list_any}
use Rattle.std.specs.Str.Lossy.{utf8_lossy}
use Rattle.std.specs.Str.Parse.{IsNumeral, digits_value, without_leading_plus}
use Rattle.form_urlencoded.specs.Form.{raw_pairs, decode}

-- a name or a value: a `+` is a space, escapes are read once, and what isn't UTF-8 is U+FFFD
abbrev pub meant : List ℕ → List ℕ
meant octets = utf8_lossy (decode octets)

abbrev pub meant_pair : List ℕ × List ℕ → List ℕ × List ℕ
meant_pair pair = (meant pair.0, meant pair.1)

-- the pairs of a name and a value that a query means
abbrev pub pairs_of : List ℕ → List (List ℕ × List ℕ)
pairs_of query = map meant_pair (raw_pairs query)

-- pairs of strings, as their octets
abbrev pub text_of : String Global × String Global → List ℕ × List ℕ
text_of pair = (string_bytes pair.0, string_bytes pair.1)

abbrev pub texts_of : List (String Global × String Global) → List (List ℕ × List ℕ)
texts_of pairs = map text_of pairs

-- there is a pair of this name
abbrev pub has_pair : List ℕ → List (List ℕ × List ℕ) → Bool
has_pair name pairs = list_any (λ pair. bytes_eq pair.0 name) pairs

-- the values of the pairs of this name, in their order
abbrev pub value_if : List ℕ → List ℕ × List ℕ → Option (List ℕ)
value_if name pair = if bytes_eq pair.0 name then Some pair.1 else None

abbrev pub values_named : List ℕ → List (List ℕ × List ℕ) → List (List ℕ)
values_named name pairs = filter_map (value_if name) pairs

-- the last of these, if there are any
abbrev pub IsLast : List (List ℕ) → Option (List ℕ) → Type 0
IsLast values None = values ≡ []
IsLast values (Some last) = (front : List (List ℕ)) × (values ≡ front ++ last ∷ [])

-- ---- what is appended

-- what the last pair `urlappend` says, and nothing where there is none
abbrev pub IsAppended : List (List ℕ × List ℕ) → List ℕ → Type 0
IsAppended pairs append = (last : Option (List ℕ)) × (IsLast (values_named (codes "urlappend") pairs) last × (append ≡ unwrap_or last []))

-- which location is asked for: what the last pair `locatt` says, and nothing where there is none
abbrev pub IsLocatt : List (List ℕ × List ℕ) → List ℕ → Type 0
IsLocatt pairs locatt = (last : Option (List ℕ)) × (IsLast (values_named (codes "locatt") pairs) last × (locatt ≡ unwrap_or last []))

-- ---- indexes

-- decimal digits of a number that an index may be; a plus may stand in front of them
abbrev pub IsIndex : List ℕ → Type 0
IsIndex text = IsNumeral 10 (without_leading_plus text) × (digits_value 10 (without_leading_plus text) < 2 ^ 32)

abbrev pub index_of : List ℕ → ℕ
index_of text = digits_value 10 (without_leading_plus text)

-- the indexes that these texts say, and none just where one of them says none
abbrev pub AreIndexes : List (List ℕ) → Option (Vec ℕ) → Type 0
AreIndexes texts None = ¬ (All IsIndex texts)
AreIndexes texts (Some indexes) = All IsIndex texts × (indexes.items ≡ map index_of texts)
