-- What a tenants text says as a whole: publishers, hosted prefixes, site information and opening rows, each in the text's order.
use Rattle.std.specs.Prelude.{◌≡◌, ◌≢◌, ◌≤◌, ◌<◌, ◌^◌, ◌==◌, ◌&&◌, ◌||◌, ◌-◌, ◌+◌, ℕ, Bool, List, [], ◌∷◌, length, take, codes, map, sum_by, count_by, All, AllPairs, Contains, Option, Some, None, nat_lt, if◌then◌else◌, find, slice_get}
use Rattle.std.specs.List.{AllPass, list_any}
use Rattle.std.specs.Option.{option_map, option_map_or}
use Rattle.std.specs.Char.{is_ascii_digit, is_ascii_lowercase}
use Rattle.std.specs.Str.{bytes_eq, str_to_ascii_lowercase}
use Rattle.hdl_limits.specs.declared.TheConstants.{LANES, VALUES_MAX, PUBLISHER_NAME_MAX}
use Rattle.hdl_tenants.specs.declared.sites.TheConstants.{SITE_MAX}
use Rattle.hdl_auth.specs.declared.algorithm.Algorithm.{Algorithm}
use Rattle.hdl_auth.specs.declared.algorithm.Algorithm.TheVariants.{Sha1}
use Rattle.hdl_name.specs.Name.{IsHandle, IsAuthority, canonical, prefix}
use Rattle.hdl_value.specs.declared.value.Value.{Value}
use Rattle.hdl_value.specs.declared.wire.Wire.{Wire}
use Rattle.hdl_value.specs.declared.wire.Wire.TheVariants.{Profile, HandleNet}
use Rattle.hdl_value.specs.Place.{Place}
use Rattle.hdl_value.specs.Spelling.{Fits, CanBeSpelt}
use Rattle.hdl_value.specs.Fault.{IsSound}

-- a publisher: its name, how many lanes it has, its port, and by whose layout its lanes speak of values
pub record Publisher : Type 0 where
  pub name : List ℕ
  pub lanes : ℕ
  pub port : ℕ
  pub wire : Wire

-- a prefix in canonical form, the place of its publisher among the publishers, and its hash function on that publisher's lanes
pub record Hosting : Type 0 where
  pub prefix : List ℕ
  pub publisher : ℕ
  pub algorithm : Algorithm

-- the place of a publisher among the publishers, and the octets of its site information
pub record SiteInfo : Type 0 where
  pub publisher : ℕ
  pub octets : List ℕ

-- a handle's name, and a value of that handle
abbrev pub Row : Type 0
Row = List ℕ × Value

-- the publishers, what is hosted for them, their site information, and the rows to open with
pub record Register : Type 0 where
  pub publishers : List Publisher
  pub hostings : List Hosting
  pub sites : List SiteInfo
  pub opening : List Row

-- what no line says
abbrev pub empty : Register
empty = record { publishers = []; hostings = []; sites = []; opening = [] }

-- ---- what callers ask

-- how many lanes there are in all
abbrev pub lane_count : List Publisher → ℕ
lane_count publishers = sum_by (λ p. p.lanes) publishers

-- whose lane this is: lanes are numbered from 0, those of the first publisher first
abbrev pub owner_among : List Publisher → ℕ → Option ℕ
owner_among [] lane = None
owner_among (p ∷ publishers) lane = if nat_lt lane p.lanes then Some 0 else option_map (λ place. place + 1) (owner_among publishers (lane - p.lanes))

-- the place of the publisher whose lane this is
abbrev pub owner : Register → ℕ → Option ℕ
owner r lane = owner_among r.publishers lane

-- the first lane of the publisher at this place, behind the lanes of those before it
abbrev pub first_lane : List Publisher → ℕ → ℕ
first_lane publishers place = lane_count (take place publishers)

-- by whose layout the lanes of the publisher at this place speak of values, our profile's where there is none
abbrev pub wire_among : List Publisher → ℕ → Wire
wire_among publishers place = option_map_or (λ p. p.wire) (slice_get publishers place) Profile

abbrev pub wire : Register → ℕ → Wire
wire r publisher = wire_among r.publishers publisher

-- whether one of these gives the prefix to the publisher at this place
abbrev pub hosts_among : List Hosting → ℕ → List ℕ → Bool
hosts_among hostings publisher prefix = list_any (λ h. (h.publisher == publisher) && bytes_eq prefix h.prefix) hostings

-- whether the prefix is hosted for the publisher at this place
abbrev pub hosts : Register → ℕ → List ℕ → Bool
hosts r publisher prefix = hosts_among r.hostings publisher prefix

-- the hash function of the first of these that gives the prefix to the publisher, SHA-1 where none does
abbrev pub algorithm_among : List Hosting → ℕ → List ℕ → Algorithm
algorithm_among hostings publisher prefix = option_map_or (λ h. h.algorithm) (find (λ h. (h.publisher == publisher) && bytes_eq prefix h.prefix) hostings) Sha1

-- the hash function of a prefix on the lanes of the publisher at this place
abbrev pub algorithm : Register → ℕ → List ℕ → Algorithm
algorithm r publisher prefix = algorithm_among r.hostings publisher prefix

-- the octets of the first of these that is of the publisher at this place, if one is
abbrev pub site_among : List SiteInfo → ℕ → Option (List ℕ)
site_among sites publisher = option_map (λ s. s.octets) (find (λ s. s.publisher == publisher) sites)

-- the site information of the publisher at this place
abbrev pub site : Register → ℕ → Option (List ℕ)
site r publisher = site_among r.sites publisher

-- ---- what is kept

-- the names of the publishers
abbrev pub names_of : List Publisher → List (List ℕ)
names_of publishers = map (λ p. p.name) publishers

-- the prefixes that are hosted
abbrev pub prefixes_of : List Hosting → List (List ℕ)
prefixes_of hostings = map (λ h. h.prefix) hostings

-- the prefix, and the place of the publisher that has it
abbrev pub hosting_pair : Hosting → List ℕ × ℕ
hosting_pair h = (h.prefix, h.publisher)

-- the places of the publishers with site information
abbrev pub informed : List SiteInfo → List ℕ
informed sites = map (λ s. s.publisher) sites

-- where a row stands: its canonical handle and its value's index
abbrev pub place : Row → Place
place row = record { handle = canonical row.0; index = row.1.index }

-- how many values the handle with this canonical form has
abbrev pub value_count : List ℕ → List Row → ℕ
value_count handle rows = count_by (λ row. bytes_eq (canonical row.0) handle) rows

-- no element stands twice
abbrev pub AreDistinct : {A : Type 0} → List A → Type 0
AreDistinct {A} xs = AllPairs (λ (x y : A). x ≢ y) xs

-- one of a-z, 0-9 and -
abbrev pub is_name_octet : ℕ → Bool
is_name_octet octet = is_ascii_lowercase octet || is_ascii_digit octet || octet == 45

-- one or more of these, and not too many
pub record IsPublisherName (name : List ℕ) : Type 0 where
  pub some : 0 < length name
  pub few : length name ≤ PUBLISHER_NAME_MAX
  pub octets : AllPass is_name_octet name

-- a publisher with a name, 2 to 64 lanes, and a port other than 0
pub record IsPublisher (p : Publisher) : Type 0 where
  pub named : IsPublisherName p.name
  pub lanes : (2 ≤ p.lanes) × (p.lanes ≤ LANES)
  pub port : (1 ≤ p.port) × (p.port < 2 ^ 16)

-- the prefix of the administrative handles
abbrev pub root : List ℕ
root = codes "0.na"

-- a naming authority in canonical form, other than the root
pub record IsPrefix (prefix : List ℕ) : Type 0 where
  pub authority : IsAuthority prefix
  pub lower : str_to_ascii_lowercase prefix ≡ prefix
  pub no_root : prefix ≢ root

-- a prefix that may be hosted, for a publisher that is there
pub record IsHosting (publishers : List Publisher) (h : Hosting) : Type 0 where
  pub sound : IsPrefix h.prefix
  pub publisher : h.publisher < length publishers

-- site information that a reply has room for, of a publisher that is there, whose lanes have the layout of the Handle.Net software
pub record IsSite (publishers : List Publisher) (s : SiteInfo) : Type 0 where
  pub publisher : s.publisher < length publishers
  pub layout : wire_among publishers s.publisher ≡ HandleNet
  pub few : length s.octets ≤ SITE_MAX

-- a value that keeps the limits, of a handle whose prefix is hosted
pub record IsOpening (hostings : List Hosting) (row : Row) : Type 0 where
  pub handle : IsHandle row.0
  pub hosted : Contains (prefixes_of hostings) (prefix row.0)
  pub sound : IsSound row.1
  pub fits : Fits row.1
  pub spelt : CanBeSpelt row.1

-- what every text that is accepted says
pub record IsRegister (r : Register) : Type 0 where
  pub publishers : All IsPublisher r.publishers
  pub names : AreDistinct (names_of r.publishers)
  pub lanes : lane_count r.publishers ≤ LANES
  pub hostings : All (IsHosting r.publishers) r.hostings
  pub once : AreDistinct (map hosting_pair r.hostings)
  pub sites : All (IsSite r.publishers) r.sites
  pub one_site : AreDistinct (informed r.sites)
  pub opening : All (IsOpening r.hostings) r.opening
  pub places : AreDistinct (map place r.opening)
  pub few : (handle : List ℕ) → value_count handle r.opening ≤ VALUES_MAX
