-- The site of one server.
use Rattle.std.specs.Prelude.{ℕ, List, [], ◌∷◌, if◌then◌else◌}
use Rattle.hdl_site.specs.declared.info.Interface.{Interface}
use Rattle.hdl_site.specs.declared.info.SiteServer.{SiteServer}
use Rattle.hdl_site.specs.declared.info.SiteInfo.{SiteInfo}
use Rattle.hdl_site.specs.declared.making.ServerPlan.{ServerPlan}
use Rattle.hdl_site.specs.declared.making.TheConstants.{BOTH, QUERY, TCP, UDP, PRIMARY, ALL_OF_HANDLE}

-- an IPv4 address in the last four of 16 octets
abbrev pub behind_zeros : List ℕ → List ℕ
behind_zeros octets = 0 ∷ 0 ∷ 0 ∷ 0 ∷ 0 ∷ 0 ∷ 0 ∷ 0 ∷ 0 ∷ 0 ∷ 0 ∷ 0 ∷ octets

-- TCP for queries and administration, and where it is served UDP for queries, at one port
abbrev pub interfaces_of : ServerPlan → List Interface
interfaces_of plan =
    record { serves = BOTH; protocol = TCP; port = plan.port }
    ∷ (if plan.is_udp then record { serves = QUERY; protocol = UDP; port = plan.port } ∷ [] else [])

abbrev pub planned_server : ServerPlan → SiteServer
planned_server plan = record { number = 1; address = plan.address; key = plan.key; interfaces = interfaces_of plan }

-- a primary site of protocol 2.1 with this server alone
abbrev pub planned_site : ServerPlan → SiteInfo
planned_site plan = record {
  form = 1;
  major = 2;
  minor = 1;
  serial = plan.serial;
  primary = PRIMARY;
  hash_option = ALL_OF_HANDLE;
  hash_filter = [];
  attributes = [];
  servers = planned_server plan ∷ [];
}
