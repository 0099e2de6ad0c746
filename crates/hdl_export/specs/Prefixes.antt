-- The prefixes that the lines of a text name.
use Rattle.std.specs.Prelude.{ℕ, ◌&&◌, List, [], ◌∷◌, codes, Contains, if◌then◌else◌}
use Rattle.std.specs.Str.{bytes_eq}

-- the prefix that a line of these fields names, if it is such a line
abbrev pub prefix_named : List (List ℕ) → List (List ℕ)
prefix_named [] = []
prefix_named (word ∷ []) = []
prefix_named (word ∷ prefix ∷ more) = if bytes_eq word (codes "prefix") then prefix ∷ [] else []

-- the prefix that a line of these fields gives to the publisher of this name, if it is such a line
abbrev pub prefix_given : List ℕ → List (List ℕ) → List (List ℕ)
prefix_given name [] = []
prefix_given name (word ∷ []) = []
prefix_given name (word ∷ prefix ∷ []) = []
prefix_given name (word ∷ prefix ∷ publisher ∷ more) = if bytes_eq word (codes "prefix") && bytes_eq publisher name then prefix ∷ [] else []

-- each of the first is one of the second
abbrev pub AreAmong : List (List ℕ) → List (List ℕ) → Type 0
AreAmong xs ys = (x : List ℕ) → Contains xs x → Contains ys x
