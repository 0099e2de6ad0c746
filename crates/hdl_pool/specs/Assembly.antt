-- A partial message of the code, as the definitions see it.
use Rattle.std.specs.Prelude.{ℕ, List, map, Option, option_map, is_none, count_by}
use Rattle.std.specs.Global.{Vec}

-- the payloads as lists
abbrev pub lists : List (Option (Vec ℕ)) → List (Option (List ℕ))
lists = map (option_map (λ v. v.items))

-- how many pieces didn't come
abbrev pub count_missing : List (Option (List ℕ)) → ℕ
count_missing = count_by is_none
