-- Which URLs are followed, and how they stand in a Location.
use Rattle.std.specs.Prelude.{◌≡◌, ◌≤◌, ◌≢◌, ◌⊎◌, ◌==◌, ◌&&◌, ◌++◌, ℕ, Bool, true, eqb, not, List, [], All, Option, Some, None, bytes_eq, codes, drop, length, take, map, if◌then◌else◌}
use Rattle.std.specs.List.{ends_with, list_any}
use Rattle.std.specs.Char.{to_ascii_lowercase}

-- the URL begins with these octets, in any case of letters
abbrev pub Begins : List ℕ → List ℕ → Type 0
Begins url front = map to_ascii_lowercase (take (length front) url) ≡ map to_ascii_lowercase front

-- it has a scheme that is followed
abbrev pub HasFollowedScheme : List ℕ → Type 0
HasFollowedScheme url =
    Begins url (codes "http://")
    ⊎ Begins url (codes "https://")
    ⊎ Begins url (codes "ftp://")
    ⊎ Begins url (codes "mailto:")
    ⊎ Begins url (codes "doi:")

-- no control octet
abbrev pub IsNoControl : ℕ → Type 0
IsNoControl octet = (32 ≤ octet) × (octet ≢ 127)

-- a browser may be sent to it
abbrev pub IsFollowed : List ℕ → Type 0
IsFollowed url = HasFollowedScheme url × All IsNoControl url

-- a path has begun: a slash stands behind the eight octets that a scheme with its colon and slashes takes at most
abbrev pub has_path : List ℕ → Bool
has_path url = list_any (λ octet. octet == 47) (drop 8 url)

-- the URL with this behind it, unless that could change its host
abbrev pub extend : List ℕ → List ℕ → Option (List ℕ)
extend url append = if not (bytes_eq append []) && not (has_path url) then None else Some (url ++ append)

-- graphic ASCII: no control octet, no space, no line end
abbrev pub IsGraphic : ℕ → Type 0
IsGraphic octet = (33 ≤ octet) × (octet ≤ 126)

-- the address of a site: its scheme is one of HTTP, a slash ends it, and it is graphic ASCII
abbrev pub IsSiteAddress : List ℕ → Type 0
IsSiteAddress address =
    (Begins address (codes "http://") ⊎ Begins address (codes "https://")) × (ends_with eqb address (codes "/") ≡ true) × All IsGraphic address
