-- Addresses: to which of them a browser is led, and which of them a replacement keeps so.
use Rattle.std.specs.Prelude.{◌≡◌, ◌⊎◌, ◌++◌, ℕ, List, codes, length, map, take, drop}
use Rattle.std.specs.Char.{to_ascii_lowercase}

-- the octets begin with these, in letters of any case
abbrev pub Begins : List ℕ → List ℕ → Type 0
Begins octets front = map to_ascii_lowercase (take (length front) octets) ≡ map to_ascii_lowercase front

-- a browser is led to an address that begins so
abbrev pub IsFollowed : List ℕ → Type 0
IsFollowed octets = Begins octets (codes "http://") ⊎ Begins octets (codes "https://") ⊎ Begins octets (codes "ftp://") ⊎ Begins octets (codes "mailto:") ⊎ Begins octets (codes "doi:")

-- the type is URL but for the case of its letters, and so isn't URL
abbrev pub IsNearlyUrl : List ℕ → Type 0
IsNearlyUrl kind = ¬ (kind ≡ codes "URL") × (map to_ascii_lowercase kind ≡ map to_ascii_lowercase (codes "URL"))

-- a URL to which no browser is led
abbrev pub IsUnfollowed : List ℕ → List ℕ → Type 0
IsUnfollowed kind octets = (kind ≡ codes "URL") × ¬ (IsFollowed octets)

-- If an address that begins with the first and goes on so is followed, it is so too if it begins with the second.
abbrev pub StaysFollowed : List ℕ → List ℕ → List ℕ → Type 0
StaysFollowed old new rest = IsFollowed (old ++ rest) → IsFollowed (new ++ rest)

-- It is so of each address that begins with the first.
abbrev pub KeepsAddresses : List ℕ → List ℕ → Type 0
KeepsAddresses old new = (rest : List ℕ) → StaysFollowed old new rest

-- It is so of the shortest address of this scheme that begins with the first.
unfoldable pub StaysOf : List ℕ → List ℕ → List ℕ → Type 0
StaysOf old new scheme = StaysFollowed old new (drop (length old) scheme)

-- It is so of the shortest address of each scheme: those of the web first.
abbrev pub KeepsWeb : List ℕ → List ℕ → Type 0
KeepsWeb old new = StaysOf old new (codes "http://") × StaysOf old new (codes "https://") × StaysOf old new (codes "ftp://")

abbrev pub KeepsFollowed : List ℕ → List ℕ → Type 0
KeepsFollowed old new = KeepsWeb old new × StaysOf old new (codes "mailto:") × StaysOf old new (codes "doi:")
