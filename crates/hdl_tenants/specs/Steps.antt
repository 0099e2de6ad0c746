-- What adding a line tells, where its kind is known: why it isn't taken, or what is there then.
use Rattle.std.specs.Prelude.{◌≡◌, ◌≤◌, ◌⊎◌, ◌<◌, ◌+◌, ℕ, List, Contains, IsTrue, ⊤}
use Rattle.hdl_name.specs.Name.{IsHandle}
use Rattle.hdl_value.specs.declared.value.Value.{Value}
use Rattle.hdl_tenants.specs.declared.fault.TenantFault.{TenantFault}
use Rattle.hdl_tenants.specs.declared.fault.TenantFault.TheVariants.{BadLine, TwicePrefix, TwicePublisher, TwiceSite, TooMany, Memory}
use Rattle.hdl_limits.specs.declared.TheConstants.{LANES, VALUES_MAX}
use Rattle.hdl_tenants.specs.Register.{Publisher, Hosting, SiteInfo, Register, names_of, hosts_among, informed, lane_count}
use Rattle.hdl_tenants.specs.Taken.{count_at}
use Rattle.hdl_value.specs.Place.{Place}
use Rattle.hdl_tenants.specs.Lines.{IsSiteText, IsValueText}
use Rattle.hdl_tenants.specs.Text.{sited, opened, register_after, hosts_named, SpeaksHandleNet, HasSite, IsKnownRow}

-- a publisher whose name is there, or for which no lanes are left
abbrev pub IsPublisherFault : List Publisher → Publisher → TenantFault → Type 0
IsPublisherFault publishers p TwicePublisher = Contains (names_of publishers) p.name
IsPublisherFault publishers p TwiceSite = ⊥
IsPublisherFault publishers p TooMany = ¬ (Contains (names_of publishers) p.name) × (LANES < lane_count publishers + p.lanes)
IsPublisherFault publishers p Memory = ⊤
IsPublisherFault publishers p BadLine = ⊥
IsPublisherFault publishers p TwicePrefix = ⊥

-- a prefix that is hosted for the publisher
abbrev pub IsPrefixFault : List Hosting → ℕ → List ℕ → TenantFault → Type 0
IsPrefixFault hostings publisher prefix TwicePrefix = IsTrue (hosts_among hostings publisher prefix)
IsPrefixFault hostings publisher prefix Memory = ⊤
IsPrefixFault hostings publisher prefix BadLine = ⊥
IsPrefixFault hostings publisher prefix TwicePublisher = ⊥
IsPrefixFault hostings publisher prefix TwiceSite = ⊥
IsPrefixFault hostings publisher prefix TooMany = ⊥

-- a handle that is no name
abbrev pub IsNameFault : List ℕ → TenantFault → Type 0
IsNameFault handle BadLine = ¬ (IsHandle handle)
IsNameFault handle Memory = ⊤
IsNameFault handle TwicePrefix = ⊥
IsNameFault handle TwicePublisher = ⊥
IsNameFault handle TwiceSite = ⊥
IsNameFault handle TooMany = ⊥

-- digits that spell no value
abbrev pub IsDigitsFault : List ℕ → TenantFault → Type 0
IsDigitsFault digits BadLine = (v : Value) → ¬ (IsValueText digits v)
IsDigitsFault digits Memory = ⊤
IsDigitsFault digits TwicePrefix = ⊥
IsDigitsFault digits TwicePublisher = ⊥
IsDigitsFault digits TwiceSite = ⊥
IsDigitsFault digits TooMany = ⊥

-- digits that spell no octets, or more than a reply has room for
abbrev pub IsSiteTextFault : List ℕ → TenantFault → Type 0
IsSiteTextFault digits BadLine = (octets : List ℕ) → ¬ (IsSiteText digits octets)
IsSiteTextFault digits Memory = ⊤
IsSiteTextFault digits TwicePrefix = ⊥
IsSiteTextFault digits TwicePublisher = ⊥
IsSiteTextFault digits TwiceSite = ⊥
IsSiteTextFault digits TooMany = ⊥

-- site information of a publisher that has some
abbrev pub IsSiteFault : List SiteInfo → ℕ → TenantFault → Type 0
IsSiteFault sites publisher TwiceSite = Contains (informed sites) publisher
IsSiteFault sites publisher Memory = ⊤
IsSiteFault sites publisher BadLine = ⊥
IsSiteFault sites publisher TwicePrefix = ⊥
IsSiteFault sites publisher TwicePublisher = ⊥
IsSiteFault sites publisher TooMany = ⊥

-- a name and digits that say no site information that may follow, or a publisher that has some
abbrev pub IsSitedFault : Register → List ℕ → List ℕ → TenantFault → Type 0
IsSitedFault r name digits BadLine = (octets : List ℕ) → IsSiteText digits octets → ¬ (SpeaksHandleNet r name)
IsSitedFault r name digits TwiceSite = (octets : List ℕ) × IsSiteText digits octets × SpeaksHandleNet r name × HasSite r name
IsSitedFault r name digits Memory = ⊤
IsSitedFault r name digits TwicePrefix = ⊥
IsSitedFault r name digits TwicePublisher = ⊥
IsSitedFault r name digits TooMany = ⊥

-- the digits spell site information that may follow, and it is added
abbrev pub Informs : Register → List ℕ → List ℕ → Register → Type 0
Informs before name digits after = (octets : List ℕ) × IsSiteText digits octets × SpeaksHandleNet before name × (HasSite before name → ⊥) × (after ≡ register_after before (sited name octets))

-- a prefix of a publisher that isn't there, or one that is hosted for it
abbrev pub IsHostedFault : Register → List ℕ → List ℕ → TenantFault → Type 0
IsHostedFault r prefix name BadLine = ¬ (Contains (names_of r.publishers) name)
IsHostedFault r prefix name TwicePrefix = Contains (names_of r.publishers) name × IsTrue (hosts_named r prefix name)
IsHostedFault r prefix name Memory = ⊤
IsHostedFault r prefix name TwicePublisher = ⊥
IsHostedFault r prefix name TwiceSite = ⊥
IsHostedFault r prefix name TooMany = ⊥

-- a handle and digits that say no value that may follow
abbrev pub IsOpenedFault : Register → List ℕ → List ℕ → TenantFault → Type 0
IsOpenedFault r handle digits BadLine = (v : Value) → IsHandle handle → IsValueText digits v → ¬ (IsKnownRow r (handle, v))
IsOpenedFault r handle digits Memory = ⊤
IsOpenedFault r handle digits TwicePrefix = ⊥
IsOpenedFault r handle digits TwicePublisher = ⊥
IsOpenedFault r handle digits TwiceSite = ⊥
IsOpenedFault r handle digits TooMany = ⊥

-- the digits spell a value that may follow, and it is added
abbrev pub Opens : Register → List ℕ → List ℕ → Register → Type 0
Opens before handle digits after = (v : Value) × IsHandle handle × IsValueText digits v × IsKnownRow before (handle, v) × (after ≡ register_after before (opened handle v))

-- a place that is there, or one of a handle that has as many as it may
abbrev pub IsPlaceFault : List Place → Place → TenantFault → Type 0
IsPlaceFault places p BadLine = Contains places p ⊎ (VALUES_MAX ≤ count_at p.handle places)
IsPlaceFault places p Memory = ⊤
IsPlaceFault places p TwicePrefix = ⊥
IsPlaceFault places p TwicePublisher = ⊥
IsPlaceFault places p TwiceSite = ⊥
IsPlaceFault places p TooMany = ⊥
