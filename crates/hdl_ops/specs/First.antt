-- Tables of decision: a list of rows, each a test and a code.
use Rattle.std.specs.Prelude.{ℕ, List, [], ◌∷◌, Bool, Option, Some, None, if◌then◌else◌}

-- the code of the first row whose test holds
unfoldable pub first : List (Bool × ℕ) → Option ℕ
first [] = None
first (row ∷ rows) = if row.0 then Some row.1 else first rows

abbrev pub or_code : Option ℕ → ℕ → ℕ
or_code None code = code
or_code (Some c) code = c
