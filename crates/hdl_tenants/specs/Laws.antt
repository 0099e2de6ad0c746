-- What registers and accepted texts promise.
use Rattle.std.specs.Prelude.{◌≡◌, ◌≢◌, ◌<◌, ◌≤◌, ◌+◌, ◌↔◌, ℕ, List, length, map, All, Contains, IsTrue, IsFalse, Some}
use Rattle.hdl_name.specs.Name.{prefix}
use Rattle.hdl_tenants.specs.declared.fault.TenantFault.{TenantFault}
use Rattle.hdl_tenants.specs.declared.fault.TenantFault.TheVariants.{Memory}
use Rattle.hdl_tenants.specs.Register.{Hosting, SiteInfo, Register, root, owner, first_lane, hosts, algorithm, site, hosting_pair, IsRegister}
use Rattle.hdl_tenants.specs.Text.{IsAccepted, IsFirstFault}

-- lines without a fault say one thing
abbrev pub OneRegister : Type 0
OneRegister = (texts : List (List ℕ)) (r s : Register) → IsAccepted texts r → IsAccepted texts s → r ≡ s

-- a text that is accepted has no fault but want of memory
abbrev pub AcceptedHasNoFault : Type 0
AcceptedHasNoFault = (texts : List (List ℕ)) (r : Register) (n : ℕ) (fault : TenantFault) → IsAccepted texts r → IsFirstFault texts n fault → fault ≡ Memory

-- want of memory aside, a text has one first fault at most
abbrev pub OneFirstFault : Type 0
OneFirstFault = (texts : List (List ℕ)) (n m : ℕ) (e f : TenantFault) → IsFirstFault texts n e → IsFirstFault texts m f → e ≢ Memory → f ≢ Memory → (n ≡ m) × (e ≡ f)

-- a publisher's lanes are those from its first lane on, up to the first lane of the next
abbrev pub LanesByRange : Type 0
LanesByRange = (r : Register) (place lane : ℕ) → (owner r lane ≡ Some place) ↔ ((place < length r.publishers) × (first_lane r.publishers place ≤ lane) × (lane < first_lane r.publishers (place + 1)))

-- the prefix of the administrative handles is hosted for nobody
abbrev pub RootIsNobodys : Type 0
RootIsNobodys = (r : Register) → IsRegister r → (place : ℕ) → IsFalse (hosts r place root)

-- a prefix is hosted for a publisher where a line gives it so
abbrev pub HostedAsGiven : Type 0
HostedAsGiven = (r : Register) (u : ℕ) (prefix : List ℕ) → IsTrue (hosts r u prefix) ↔ Contains (map hosting_pair r.hostings) (prefix, u)

-- the hash function of a prefix on a publisher's lanes is the one that its line gives
abbrev pub HashedAsGiven : Type 0
HashedAsGiven = (r : Register) → IsRegister r → (h : Hosting) → Contains r.hostings h → algorithm r h.publisher h.prefix ≡ h.algorithm

-- the site information of a publisher is the octets that its line gives
abbrev pub SitedAsGiven : Type 0
SitedAsGiven = (r : Register) → IsRegister r → (s : SiteInfo) → Contains r.sites s → site r s.publisher ≡ Some s.octets

-- the prefix of each handle to open with is hosted for a publisher
abbrev pub OpeningIsHosted : Type 0
OpeningIsHosted = (r : Register) → IsRegister r → All (λ row. (place : ℕ) × (place < length r.publishers) × IsTrue (hosts r place (prefix row.0))) r.opening
