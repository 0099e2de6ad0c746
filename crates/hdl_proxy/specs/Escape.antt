-- Text inside a page of HTML: it is no markup, and turns no direction but its own.
use Rattle.std.specs.Prelude.{◌≢◌, ℕ, All, List, [], ◌∷◌, ◌==◌, if◌then◌else◌, codes}
use Rattle.std.specs.Char.{encode_utf8}
use Rattle.std.specs.List.{flat_map}
use Rattle.std.specs.Str.{chars, is_utf8}

-- what stands for an octet: an entity for `&`, `<`, `>`, `"` and `'`, and else the octet itself
abbrev pub entity : ℕ → List ℕ
entity octet =
    if octet == 38 then codes "&amp;"
    else if octet == 60 then codes "&lt;"
    else if octet == 62 then codes "&gt;"
    else if octet == 34 then codes "&quot;"
    else if octet == 39 then codes "&#39;"
    else octet ∷ []

-- what stands for a character: its number where it turns the direction of the text around it (Unicode, Bidi_Control), and else the character itself
abbrev pub visible_char : ℕ → List ℕ
visible_char c =
    if c == 1564 then codes "[U+061C]"
    else if c == 8206 then codes "[U+200E]"
    else if c == 8207 then codes "[U+200F]"
    else if c == 8234 then codes "[U+202A]"
    else if c == 8235 then codes "[U+202B]"
    else if c == 8236 then codes "[U+202C]"
    else if c == 8237 then codes "[U+202D]"
    else if c == 8238 then codes "[U+202E]"
    else if c == 8294 then codes "[U+2066]"
    else if c == 8295 then codes "[U+2067]"
    else if c == 8296 then codes "[U+2068]"
    else if c == 8297 then codes "[U+2069]"
    else encode_utf8 c

unfoldable pub visible_text : List ℕ → List ℕ
visible_text text = flat_map visible_char (chars text)

-- octets that are no text as they are
abbrev pub visible : List ℕ → List ℕ
visible octets = if is_utf8 octets then visible_text octets else octets

-- a text where it is no markup
abbrev pub entities : List ℕ → List ℕ
entities octets = flat_map entity octets

unfoldable pub escaped : List ℕ → List ℕ
escaped text = entities (visible text)

-- an octet that begins no markup and ends no attribute
abbrev pub IsInert : ℕ → Type 0
IsInert octet = (octet ≢ 60) × (octet ≢ 62) × (octet ≢ 34) × (octet ≢ 39)

-- the law of escaping: text is inert wherever it stands in a page
abbrev pub TextIsInert : Type 0
TextIsInert = (text : List ℕ) → All IsInert (escaped text)
