-- Which values are shown, and which one leads on.
use Rattle.std.specs.Prelude.{◌≡◌, ◌≤◌, ◌&&◌, ℕ, Bool, true, not, List, Option, Some, None, All, Contains, codes, nat_lt}
use Rattle.std.specs.Str.{bytes_eq}
use Rattle.hdl_value.specs.declared.value.Value.{Value}
use Rattle.hdl_value.specs.Permission.{is_public}
use Rattle.hdl_value.specs.Refs.{is_secret_key}

-- anybody may read it, and it is no key
abbrev pub is_shown : Value → Bool
is_shown v = is_public v && not (is_secret_key v)

-- it is of this type
abbrev pub is_of : List ℕ → Value → Bool
is_of kind v = bytes_eq v.kind kind

abbrev pub is_url : Value → Bool
is_url v = is_of (codes "URL") v

-- its index is below that of the one chosen so far, or none was chosen
abbrev pub comes_first : Value → Option Value → Bool
comes_first v None = true
comes_first v (Some chosen) = nat_lt v.index chosen.index

abbrev pub is_chosen : List ℕ → Value → Option Value → Bool
is_chosen kind v chosen = is_of kind v && comes_first v chosen

-- it is a value of this type of these, and none of them has a lower index; or there is none of this type
abbrev pub IsFirstOf : List ℕ → List Value → Option Value → Type 0
IsFirstOf kind values None = All (λ v. ¬ (is_of kind v ≡ true)) values
IsFirstOf kind values (Some first) = Contains values first × (is_of kind first ≡ true) × All (λ v. is_of kind v ≡ true → first.index ≤ v.index) values

abbrev pub IsFirstUrl : List Value → Option Value → Type 0
IsFirstUrl values first = IsFirstOf (codes "URL") values first
