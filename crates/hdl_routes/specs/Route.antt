-- What a word of the command line says of a server.
use Rattle.std.specs.Prelude.{◌≢◌, ◌==◌, ℕ, Bool, List, codes}
use Rattle.hdl_name.specs.Name.{IsAuthority}

-- '=' stands between a server's address and its prefixes
abbrev pub is_equals : ℕ → Bool
is_equals octet = octet == 61

-- a naming authority, other than that of the administrative handles, which are of the prefix that they name
pub record IsPrefix (text : List ℕ) : Type 0 where
  pub authority : IsAuthority text
  pub other : text ≢ codes "0.na"
