-- The lines of a tenants text as they are written.
use Rattle.std.specs.Prelude.{◌≡◌, ◌<◌, ◌^◌, ℕ, ◌-◌, ◌==◌, ◌&&◌, not, Bool, false, true, List, [], ◌∷◌, ◌++◌, length, codes, slice_index, if◌then◌else◌}
use Rattle.std.specs.List.{flat_map, list_all, AllByRecursion}
use Rattle.hex.specs.Hex.{encode_lower, IsBytes}
use Rattle.hdl_value.specs.declared.references.RawRef.{RawRef}
use Rattle.hdl_value.specs.declared.value.Value.{Value}
use Rattle.hdl_value.specs.Spelling.{spelling, Fits}
use Rattle.hdl_tenants.specs.Register.{Row}

-- the octet isn't among them
abbrev pub Lacks : ℕ → List ℕ → Type 0
Lacks stop octets = AllByRecursion (λ octet. (octet == stop) ≡ false) octets

-- ---- a value

-- a line can name the handle: no space divides it, and no line feed
abbrev pub is_expressible : List ℕ → Bool
is_expressible handle = list_all (λ octet. not (octet == 32) && not (octet == 10)) handle

-- the line of a row: `value`, the handle, and the digits of the value's spelling
abbrev pub value_line : Row → List ℕ
value_line row = codes "value " ++ (row.0 ++ (32 ∷ encode_lower (spelling row.1)))

-- the value fits its spelling, which is octets
pub record IsWritable (v : Value) : Type 0 where
  pub fits : Fits v
  pub octets : IsBytes (spelling v)

-- the handle of each reference fits its field
abbrev pub HaveShortHandles : List RawRef → Type 0
HaveShortHandles references = AllByRecursion (λ r. length r.handle < 2 ^ 32) references

-- ---- lines with their ends

abbrev pub ends_with_return : List ℕ → Bool
ends_with_return line = slice_index line (length line - 1) == 13

-- a line feed behind the line, and a carriage return before it where the line itself ends with one
abbrev pub with_line_end : List ℕ → List ℕ
with_line_end line = line ++ (if ends_with_return line then 13 ∷ 10 ∷ [] else 10 ∷ [])

-- the text of lines
abbrev pub text_of : List (List ℕ) → List ℕ
text_of lines = flat_map with_line_end lines

-- ---- the other lines

-- a line that says no value: one that doesn't begin as such lines do
abbrev pub is_other : List ℕ → Bool
is_other [] = true
is_other (first ∷ rest) = not (first == 118)
