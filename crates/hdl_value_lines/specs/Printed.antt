-- Octets as people are shown them: no handle, type or text drives a terminal, or makes two lines of one.
use Rattle.std.specs.Prelude.{ℕ, false, if◌then◌else◌, List, ◌∷◌, ◌++◌, codes}
use Rattle.std.specs.Char.{is_control, encode_utf8}
use Rattle.std.specs.Fmt.{digits}
use Rattle.std.specs.List.{flat_map}
use Rattle.std.specs.Str.{chars, is_utf8}
use Rattle.hex.specs.Hex.{encode_lower}

-- the escape of a character, as Rust writes it: a backslash, and `u{1b}` of that with the number 27
abbrev pub escape : ℕ → List ℕ
escape c = 92 ∷ (codes "u{" ++ (digits 16 false c ++ codes "}"))

-- a control character by its escape, and any other as it is
abbrev pub printed_char : ℕ → List ℕ
printed_char c = if is_control c then escape c else encode_utf8 c

-- a text character by character
unfoldable pub printed_text : List ℕ → List ℕ
printed_text text = flat_map printed_char (chars text)

-- octets that are no text by their digits
abbrev pub printed_octets : List ℕ → List ℕ
printed_octets octets = if is_utf8 octets then printed_text octets else encode_lower octets
