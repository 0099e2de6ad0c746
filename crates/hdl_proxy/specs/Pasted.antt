-- Names as people paste them: with a scheme, or with the address of a proxy in front.
use Rattle.std.specs.Prelude.{◌≡◌, ◌⊎◌, ℕ, List, Option, Some, None, codes, length, drop, if◌then◌else◌}
use Rattle.std.specs.Str.{is_utf8, trim}
use Rattle.percent_encoding.specs.Percent.{percent_decode}
use Rattle.hdl_proxy.specs.Url.{Begins}

-- text without the spaces at its ends, of any kind; octets that are no text stay as they are
unfoldable pub between_spaces : List ℕ → List ℕ
between_spaces octets = if is_utf8 octets then trim octets else octets

-- the text begins with this front, in any case of letters, and the rest stands behind it
abbrev pub IsBehind : List ℕ → List ℕ → List ℕ → Type 0
IsBehind front text rest = Begins text front × (rest ≡ drop (length front) text)

abbrev pub IsBehindEither : List ℕ → List ℕ → List ℕ → List ℕ → Type 0
IsBehindEither first second text rest = IsBehind first text rest ⊎ IsBehind second text rest

-- behind the scheme of a handle
abbrev pub IsBehindScheme : List ℕ → List ℕ → Type 0
IsBehindScheme text rest = IsBehindEither (codes "hdl:") (codes "doi:") text rest

-- behind the address of a proxy: for DOIs, or for all handles
abbrev pub IsBehindDoi : List ℕ → List ℕ → Type 0
IsBehindDoi text rest =
    IsBehindEither (codes "https://doi.org/") (codes "http://doi.org/") text rest
    ⊎ IsBehindEither (codes "https://dx.doi.org/") (codes "http://dx.doi.org/") text rest

abbrev pub IsBehindAddress : List ℕ → List ℕ → Type 0
IsBehindAddress text rest = IsBehindEither (codes "https://hdl.handle.net/") (codes "http://hdl.handle.net/") text rest ⊎ IsBehindDoi text rest

-- behind the site's own address, where it has one
abbrev pub IsBehindOwn : Option (List ℕ) → List ℕ → List ℕ → Type 0
IsBehindOwn None text rest = ⊥
IsBehindOwn (Some own) text rest = IsBehind own text rest

abbrev pub IsBehindService : Option (List ℕ) → List ℕ → List ℕ → Type 0
IsBehindService own text rest = IsBehindOwn own text rest ⊎ IsBehindAddress text rest

-- nothing is so
abbrev pub Lacks : (List ℕ → Type 0) → Type 0
Lacks so = (rest : List ℕ) → ¬ (so rest)

-- no scheme and no address stands in front, so it is the whole text
abbrev pub IsWhole : List ℕ → List ℕ → Type 0
IsWhole text rest = Lacks (IsBehindScheme text) × Lacks (IsBehindAddress text) × (rest ≡ text)

-- the name in a part of a path, with its escapes
abbrev pub IsWritten : List ℕ → List ℕ → Type 0
IsWritten text rest = IsBehindScheme text rest ⊎ IsBehindAddress text rest ⊎ IsWhole text rest

-- the name in a text that was pasted at a site with this address; an address has escapes
abbrev pub IsPasted : Option (List ℕ) → List ℕ → List ℕ → Type 0
IsPasted own text name =
    IsBehindScheme text name
    ⊎ ((rest : List ℕ) × (IsBehindService own text rest × (name ≡ percent_decode rest)))
    ⊎ (Lacks (IsBehindScheme text) × Lacks (IsBehindService own text) × (name ≡ text))

-- the same, where spaces at the ends of the name, and at those of all that was pasted, don't count
abbrev pub IsPastedName : Option (List ℕ) → List ℕ → List ℕ → Type 0
IsPastedName own sent name = (part : List ℕ) × (IsPasted own (between_spaces sent) part × (name ≡ between_spaces part))
