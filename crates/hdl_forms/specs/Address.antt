-- Names as readers paste them, and addresses of this site.
use Rattle.std.specs.Prelude.{◌≡◌, ◌⊎◌, ℕ, Bool, bytes_eq, if◌then◌else◌, List, [], ◌∷◌, ◌++◌, length, take, drop, map, codes, Option, Some, None, unwrap_or}
use Rattle.std.specs.Char.{to_ascii_lowercase}
use Rattle.percent_encoding.specs.Percent.{percent_decode}
use Rattle.hdl_name.specs.Name.{IsHandle, canonical}
use Rattle.hdl_value.specs.Reading.{◌>>=◌}
use Rattle.hdl_value_lines.specs.Fields.{cut_at}
use Rattle.hdl_proxy.specs.Url.{Begins}

-- it begins as an address or as an identifier that a reader pastes
abbrev pub IsAddress : List ℕ → Type 0
IsAddress name = Begins name (codes "http://") ⊎ Begins name (codes "https://") ⊎ Begins name (codes "hdl:") ⊎ Begins name (codes "doi:")

-- ---- addresses of this site

-- the text begins with this front, in any case of letters
abbrev pub begins : List ℕ → List ℕ → Bool
begins text front = bytes_eq (map to_ascii_lowercase (take (length front) text)) (map to_ascii_lowercase front)

-- what follows it, if it does
abbrev pub behind : List ℕ → List ℕ → Option (List ℕ)
behind front text = if begins text front then Some (drop (length front) text) else None

abbrev pub or_else : Option (List ℕ) → Option (List ℕ) → Option (List ℕ)
or_else None other = other
or_else (Some text) other = Some text

-- what follows the scheme of an address
abbrev pub behind_scheme : List ℕ → Option (List ℕ)
behind_scheme text = or_else (behind (codes "https://") text) (behind (codes "http://") text)

-- what follows the scheme of the site's own address, if it has one
abbrev pub host_in : Option (List ℕ) → Option (List ℕ)
host_in None = None
host_in (Some address) = behind_scheme address

-- the host of this site, and what follows it up to its handles: of the site's own address, or of the one that a request names
abbrev pub own_host : Option (List ℕ) → Option (List ℕ) → List ℕ
own_host address host = unwrap_or (host_in address) (unwrap_or host [] ++ 47 ∷ [])

abbrev pub front_of : List ℕ → Option (List ℕ × List ℕ) → List ℕ
front_of text None = text
front_of text (Some parts) = parts.0

-- a text up to the first of these octets
abbrev pub up_to : ℕ → List ℕ → List ℕ
up_to stop text = front_of text (cut_at stop text)

-- the path of an address at this host, without what follows a `?` or a `#`
unfoldable pub path_at : List ℕ → List ℕ → Option (List ℕ)
path_at host text = do
  rest ← behind_scheme text
  path ← behind host rest
  Some (up_to 63 (up_to 35 path))

-- such a path is that of the handle with this name
abbrev pub IsPathOf : List ℕ → Option (List ℕ) → Type 0
IsPathOf name None = ⊥
IsPathOf name (Some path) = IsHandle (percent_decode path) × (canonical (percent_decode path) ≡ canonical name)

-- the text is an address of this handle at this host
abbrev pub LeadsBack : List ℕ → List ℕ → List ℕ → Type 0
LeadsBack host name text = IsPathOf name (path_at host text)
