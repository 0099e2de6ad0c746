-- Which pages a form may come from.
use Rattle.std.specs.Prelude.{ℕ, Bool, false, ◌&&◌, ◌||◌, List, take, drop, length, Option, Some, None, codes}
use Rattle.std.specs.Str.{bytes_eq}

-- the octets are the scheme, and behind it the host
abbrev pub is_behind : List ℕ → List ℕ → List ℕ → Bool
is_behind scheme host origin = bytes_eq (take (length scheme) origin) scheme && bytes_eq (drop (length scheme) origin) host

abbrev pub is_of_host : List ℕ → List ℕ → Bool
is_of_host host origin = is_behind (codes "https://") host origin || is_behind (codes "http://") host origin

abbrev pub names_host : Option (List ℕ) → Option (List ℕ) → Bool
names_host None host = false
names_host (Some origin) None = false
names_host (Some origin) (Some host) = is_of_host host origin

-- the field Sec-Fetch-Site says so; or there is none, and the field Origin is that of the host
abbrev pub is_same_origin : Option (List ℕ) → Option (List ℕ) → Option (List ℕ) → Bool
is_same_origin (Some site) origin host = bytes_eq site (codes "same-origin")
is_same_origin None origin host = names_host origin host
