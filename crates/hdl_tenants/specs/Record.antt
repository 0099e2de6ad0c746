-- What is kept, as a register shows it.
use Rattle.std.specs.Prelude.{◌≡◌, ◌≤◌, ℕ, List, [], map, filter, unwrap_or, String, Vec}
use Rattle.std.specs.Option.{option_map}
use Rattle.std.specs.Map.{lookup}
use Rattle.std.specs.Str.{bytes_eq}
use Rattle.std.specs.String.{string_bytes}
use Rattle.hdl_tenants.specs.declared.lines.PublisherLine.{PublisherLine}
use Rattle.hdl_tenants.specs.declared.prefixes.Host.{Host}
use Rattle.hdl_tenants.specs.declared.prefixes.HostedPrefix.{HostedPrefix}
use Rattle.hdl_tenants.specs.declared.publishers.Shape.{Shape}
use Rattle.hdl_tenants.specs.declared.sites.KeptSite.{KeptSite}
use Rattle.hdl_limits.specs.declared.TheConstants.{LANES}
use Rattle.hdl_tenants.specs.Register.{Publisher, Hosting, SiteInfo, lane_count}

-- the publisher that a line names
abbrev pub publisher_on : PublisherLine → Publisher
publisher_on line = record { name = line.name.now; lanes = line.lanes; port = line.port; wire = line.wire }

-- the publisher of a hosting, with the hash function there
abbrev pub host_in : Hosting → Host
host_in h = record { publisher = h.publisher; algorithm = h.algorithm }

-- the publishers for whom a prefix is hosted, in the text's order
abbrev pub hosts_of : List ℕ → List Hosting → List Host
hosts_of prefix hostings = map host_in (filter (λ h. bytes_eq prefix h.prefix) hostings)

module _ {Z : Type 0} where
  abbrev pub publisher_in : String Z × Shape → Publisher
  publisher_in e = record { name = string_bytes e.0; lanes = e.1.lanes; port = e.1.port; wire = e.1.wire }

  abbrev pub publishers_in : List (String Z × Shape) → List Publisher
  publishers_in entries = map publisher_in entries

  -- the publishers that are found by a prefix
  abbrev pub hosts_at : List ℕ → List (Vec ℕ Z × Vec Host Z) → List Host
  hosts_at prefix entries = unwrap_or (option_map (λ hosts. hosts.items) (lookup (λ key. bytes_eq prefix key.items) entries)) []

  -- they are those of the hostings
  pub record KeepsHostings (entries : List (Vec ℕ Z × Vec Host Z)) (hostings : List Hosting) : Type 0 where
    pub found : (prefix : List ℕ) → hosts_at prefix entries ≡ hosts_of prefix hostings

abbrev pub hosting_in : HostedPrefix → Hosting
hosting_in h = record { prefix = h.prefix.items; publisher = h.host.publisher; algorithm = h.host.algorithm }

abbrev pub hostings_in : List HostedPrefix → List Hosting
hostings_in hosted = map hosting_in hosted

abbrev pub site_in : KeptSite → SiteInfo
site_in s = record { publisher = s.publisher; octets = s.octets.items }

abbrev pub sites_in : List KeptSite → List SiteInfo
sites_in kept = map site_in kept

-- how many lanes there are together, and that they are few
pub record KeepsLanes (publishers : List Publisher) (lanes : ℕ) : Type 0 where
  pub total : lanes ≡ lane_count publishers
  pub few : lanes ≤ LANES
