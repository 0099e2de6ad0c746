-- The tenants text: which texts are accepted, what they say, and which line of another is the first faulty one.
use Rattle.std.specs.Prelude.{◌≡◌, ◌≤◌, ◌<◌, ◌+◌, ◌⊎◌, ℕ, Bool, List, [], ◌∷◌, ◌++◌, length, map, slice_get, Some, Contains, IsTrue, IsFalse, ⊤}
use Rattle.std.specs.List.{position_or_len}
use Rattle.std.specs.Str.{bytes_eq}
use Rattle.hdl_auth.specs.declared.algorithm.Algorithm.{Algorithm}
use Rattle.hdl_name.specs.Name.{canonical, prefix}
use Rattle.hdl_value.specs.declared.value.Value.{Value}
use Rattle.hdl_value.specs.declared.wire.Wire.TheVariants.{HandleNet}
use Rattle.hdl_tenants.specs.declared.fault.TenantFault.{TenantFault}
use Rattle.hdl_tenants.specs.declared.fault.TenantFault.TheVariants.{BadLine, TwicePrefix, TwicePublisher, TwiceSite, TooMany, Memory}
use Rattle.hdl_limits.specs.declared.TheConstants.{LANES, VALUES_MAX}
use Rattle.hdl_tenants.specs.Register.{Publisher, Register, Row, empty, names_of, prefixes_of, hosts, informed, lane_count, wire, place, value_count}
use Rattle.hdl_tenants.specs.Lines.{fields_of, IsPublisherLine, IsPrefixLine, IsSiteLine, IsValueLine}

-- what one line says
pub data Line : Type 0 where
  skipped : Line
  publisher : Publisher → Line
  hosted : (prefix name : List ℕ) → Algorithm → Line
  sited : (name octets : List ℕ) → Line
  opened : (handle : List ℕ) → Value → Line

-- an empty line, or one that begins with '#'
abbrev pub IsSkipped : List ℕ → Type 0
IsSkipped text = (text ≡ []) ⊎ (slice_get text 0 ≡ Some 35)

-- the octets of a line say this
abbrev pub IsLine : List ℕ → Line → Type 0
IsLine text skipped = IsSkipped text
IsLine text (publisher p) = IsPublisherLine (fields_of text) p
IsLine text (hosted prefix name a) = IsPrefixLine (fields_of text) prefix name a
IsLine text (sited name octets) = IsSiteLine (fields_of text) name octets
IsLine text (opened handle v) = IsValueLine (fields_of text) handle v

-- the place of the publisher with this name
abbrev pub place_of : List ℕ → List Publisher → ℕ
place_of name publishers = position_or_len (λ p. bytes_eq name p.name) publishers

-- whether the prefix is hosted for the publisher with this name
abbrev pub hosts_named : Register → List ℕ → List ℕ → Bool
hosts_named r prefix name = hosts r (place_of name r.publishers) prefix

-- the register with what one more line says
abbrev pub register_after : Register → Line → Register
register_after r skipped = r
register_after r (publisher p) = record r { publishers = r.publishers ++ p ∷ [] }
register_after r (hosted prefix name a) = record r { hostings = r.hostings ++ record { prefix = prefix; publisher = place_of name r.publishers; algorithm = a } ∷ [] }
register_after r (sited name octets) = record r { sites = r.sites ++ record { publisher = place_of name r.publishers; octets = octets } ∷ [] }
register_after r (opened handle v) = record r { opening = r.opening ++ (handle, v) ∷ [] }

-- a value may follow what stands before it
pub record IsKnownRow (r : Register) (row : Row) : Type 0 where
  pub hosted : Contains (prefixes_of r.hostings) (prefix row.0)
  pub once : ¬ (Contains (map place r.opening) (place row))
  pub room : value_count (canonical row.0) r.opening < VALUES_MAX

-- the lanes of a publisher with this name have the layout of the Handle.Net software
pub record SpeaksHandleNet (r : Register) (name : List ℕ) : Type 0 where
  pub there : Contains (names_of r.publishers) name
  pub layout : wire r (place_of name r.publishers) ≡ HandleNet

-- the publisher with this name has site information
abbrev pub HasSite : Register → List ℕ → Type 0
HasSite r name = Contains (informed r.sites) (place_of name r.publishers)

-- a line names nothing that does not stand before it, and no value twice or too many
abbrev pub IsKnown : Register → Line → Type 0
IsKnown r skipped = ⊤
IsKnown r (publisher p) = ⊤
IsKnown r (hosted prefix name a) = Contains (names_of r.publishers) name
IsKnown r (sited name octets) = SpeaksHandleNet r name
IsKnown r (opened handle v) = IsKnownRow r (handle, v)

-- nothing is wrong with a line that says this
abbrev pub IsAllowed : Register → Line → Type 0
IsAllowed r skipped = ⊤
IsAllowed r (publisher p) = ¬ (Contains (names_of r.publishers) p.name) × (lane_count r.publishers + p.lanes ≤ LANES)
IsAllowed r (hosted prefix name a) = Contains (names_of r.publishers) name × IsFalse (hosts_named r prefix name)
IsAllowed r (sited name octets) = SpeaksHandleNet r name × ¬ (HasSite r name)
IsAllowed r (opened handle v) = IsKnownRow r (handle, v)

-- what is wrong with a line; a line that is skipped needs no memory
abbrev pub HasFault : Register → List ℕ → TenantFault → Type 0
HasFault r text BadLine = (line : Line) → IsLine text line → ¬ (IsKnown r line)
HasFault r text TwicePrefix = (prefix : List ℕ) × (name : List ℕ) × (a : Algorithm) × IsLine text (hosted prefix name a) × Contains (names_of r.publishers) name × IsTrue (hosts_named r prefix name)
HasFault r text TwicePublisher = (p : Publisher) × IsLine text (publisher p) × Contains (names_of r.publishers) p.name
HasFault r text TwiceSite = (name : List ℕ) × (octets : List ℕ) × IsLine text (sited name octets) × SpeaksHandleNet r name × HasSite r name
HasFault r text TooMany = (p : Publisher) × IsLine text (publisher p) × ¬ (Contains (names_of r.publishers) p.name) × (LANES < lane_count r.publishers + p.lanes)
HasFault r text Memory = ¬ (IsSkipped text)

-- the line says something that is allowed, and takes one register to the other
abbrev pub Adds : Register → List ℕ → Register → Type 0
Adds before text after = (line : Line) × IsLine text line × IsAllowed before line × (after ≡ register_after before line)

-- lines without a fault, one after another, take one register to the other
abbrev pub AddsAll : Register → List (List ℕ) → Register → Type 0
AddsAll before [] after = after ≡ before
AddsAll before (text ∷ texts) after = (between : Register) × Adds before text between × AddsAll between texts after

-- these lines are without a fault, and say this
abbrev pub IsAccepted : List (List ℕ) → Register → Type 0
IsAccepted texts register = AddsAll empty texts register

-- line n of these, counted from 1, is the first with a fault, and this is its fault
pub record IsFirstFault (texts : List (List ℕ)) (n : ℕ) (fault : TenantFault) : Type 0 where
  pub front : List (List ℕ)
  pub text : List ℕ
  pub back : List (List ℕ)
  pub before : Register
  pub split : texts ≡ front ++ text ∷ back
  pub number : n ≡ length front + 1
  pub accepted : IsAccepted front before
  pub fault_there : HasFault before text fault
