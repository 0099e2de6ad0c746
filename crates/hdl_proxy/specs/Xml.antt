-- The little of XML that locations take.
use Rattle.std.specs.Prelude.{◌≡◌, ◌≢◌, ◌<◌, ◌⊎◌, if◌then◌else◌, bytes_eq, ℕ, ◌==◌, nat_le, Bool, ◌&&◌, ◌||◌, List, [], ◌∷◌, ◌++◌, length, codes, All, Option, Some, None}
use Rattle.std.specs.List.{AllByRecursion, AllPass, AllZip, concat}
use Rattle.hdl_proxy.specs.declared.xml.Attribute.{Attribute}

-- ---- bytes

-- spaces, tabs and line ends
abbrev pub is_blank : ℕ → Bool
is_blank byte = (byte == 32) || (byte == 9) || (byte == 10) || (byte == 13)

-- ASCII letters and digits, and - . : _
abbrev pub is_in_name : ℕ → Bool
is_in_name byte =
    (nat_le 97 byte && nat_le byte 122) || (nat_le 65 byte && nat_le byte 90) || (nat_le 48 byte && nat_le byte 58)
    || (byte == 45) || (byte == 46) || (byte == 95)

-- ---- what quoted text says

-- a piece of it stands for this byte: one of five entities does, and any other byte for itself, but & and <
abbrev pub StandsFor : List ℕ → ℕ → Type 0
StandsFor piece byte =
    ((piece ≡ codes "&amp;") × (byte ≡ 38)) ⊎ ((piece ≡ codes "&lt;") × (byte ≡ 60)) ⊎ ((piece ≡ codes "&gt;") × (byte ≡ 62))
    ⊎ ((piece ≡ codes "&quot;") × (byte ≡ 34)) ⊎ ((piece ≡ codes "&apos;") × (byte ≡ 39))
    ⊎ ((piece ≡ byte ∷ []) × (byte ≢ 38) × (byte ≢ 60))

-- its pieces in turn stand for the bytes of a text
abbrev pub Says : List ℕ → List ℕ → Type 0
Says written text = (pieces : List (List ℕ)) × (AllZip StandsFor pieces text × (written ≡ concat pieces))

-- a text in quotes of either kind, which isn't in it
abbrev pub IsQuoted : List ℕ → List ℕ → Type 0
IsQuoted written text =
    (quote : ℕ) × (inside : List ℕ) × (((quote ≡ 34) ⊎ (quote ≡ 39)) × All (λ byte. byte ≢ quote) inside × Says inside text
    × (written ≡ quote ∷ (inside ++ quote ∷ [])))

-- ---- tags

-- a name behind blanks, and an equals sign that may have blanks around it
abbrev pub IsNamed : List ℕ → List ℕ → Type 0
IsNamed written name =
    (front before behind : List ℕ) × (AllPass is_blank front × (0 < length front) × AllPass is_in_name name × (0 < length name)
    × AllPass is_blank before × AllPass is_blank behind × (written ≡ front ++ (name ++ (before ++ (codes "=" ++ behind)))))

-- an attribute: its name, and its text in quotes
abbrev pub IsAttribute : List ℕ → Attribute → Type 0
IsAttribute written attribute =
    (named quoted : List ℕ) × (IsNamed named attribute.name.items × IsQuoted quoted attribute.text.items × (written ≡ named ++ quoted))

-- what the attribute of this name says, the first one where there are several, if there is one
abbrev pub attribute_value : List ℕ → List Attribute → Option (List ℕ)
attribute_value name [] = None
attribute_value name (first ∷ attributes) = if bytes_eq first.name.items name then Some first.text.items else attribute_value name attributes

-- a tag up to its end: its front, attributes, and blanks
abbrev pub IsTag : List ℕ → List ℕ → List Attribute → Type 0
IsTag front written attributes =
    (pieces : List (List ℕ)) × (blank : List ℕ) × (AllZip IsAttribute pieces attributes × AllPass is_blank blank
    × (written ≡ front ++ (concat pieces ++ blank)))

-- ---- what stands between tags

-- a piece of a comment: any byte but a dash, or a dash and another byte
abbrev pub IsInComment : List ℕ → Type 0
IsInComment piece = (byte : ℕ) × ((byte ≢ 45) × ((piece ≡ byte ∷ []) ⊎ (piece ≡ 45 ∷ byte ∷ [])))

abbrev pub IsComment : List ℕ → Type 0
IsComment written =
    (pieces : List (List ℕ)) × (AllByRecursion IsInComment pieces × (written ≡ codes "<!--" ++ (concat pieces ++ codes "-->")))

-- blanks and comments
abbrev pub IsBetween : List ℕ → Type 0
IsBetween written =
    (pieces : List (List ℕ)) × (AllByRecursion (λ piece. AllPass is_blank piece ⊎ IsComment piece) pieces × (written ≡ concat pieces))
