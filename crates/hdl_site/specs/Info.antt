-- The data of an HS_SITE value, by which it is read and written: RFC 3651, section 3.2.2, as, to our knowledge, the Handle.Net software has it
-- (docs/HANDLE_NET.md). Numbers are in network order, the highest octet first.
use Rattle.std.specs.Prelude.{◌≡◌, ℕ, ◌<◌, ◌^◌, List, length, Option}
use Rattle.std.specs.List.{AllByRecursion}
use Rattle.std.specs.Int.{w16, w32}
use Rattle.hdl_limits.specs.Octets.{AreOctets}
use Rattle.hdl_value.specs.Reading.{Layout, octets_layout, number_layout, octet_layout, pair_layout, seen_layout, named_layout, counted_layout}
use Rattle.hdl_value.specs.Spelling.{IsString, string_layout}
use Rattle.hdl_site.specs.declared.info.Interface.{Interface}
use Rattle.hdl_site.specs.declared.info.Attribute.{Attribute}
use Rattle.hdl_site.specs.declared.info.SiteServer.{SiteServer}
use Rattle.hdl_site.specs.declared.info.SiteInfo.{SiteInfo}

-- ---- interfaces: what is served, protocol, port

abbrev pub interface_of : ℕ × (ℕ × ℕ) → Interface
interface_of x = record { serves = x.0; protocol = x.1.0; port = x.1.1 }

abbrev pub interface_parts : Interface → ℕ × (ℕ × ℕ)
interface_parts i = (i.serves, (i.protocol, i.port))

abbrev pub interface_layout : Layout Interface
interface_layout = seen_layout interface_of interface_parts (pair_layout octet_layout (pair_layout octet_layout (number_layout w32)))

unfoldable pub interface_at : List ℕ → Option (Interface × List ℕ)
interface_at octets = interface_layout.read octets

abbrev pub interface : Interface → List ℕ
interface i = interface_layout.write i

abbrev pub interfaces_layout : Layout (List Interface)
interfaces_layout = counted_layout (named_layout interface_layout interface_at)

unfoldable pub interfaces_at : List ℕ → Option (List Interface × List ℕ)
interfaces_at octets = interfaces_layout.read octets

abbrev pub interfaces : List Interface → List ℕ
interfaces all = interfaces_layout.write all

-- ---- attributes: two strings

abbrev pub attribute_of : List ℕ × List ℕ → Attribute
attribute_of x = record { name = x.0; text = x.1 }

abbrev pub attribute_layout : Layout Attribute
attribute_layout = seen_layout attribute_of (λ a. (a.name, a.text)) (pair_layout string_layout string_layout)

unfoldable pub attribute_at : List ℕ → Option (Attribute × List ℕ)
attribute_at octets = attribute_layout.read octets

abbrev pub attribute : Attribute → List ℕ
attribute a = attribute_layout.write a

abbrev pub attributes_layout : Layout (List Attribute)
attributes_layout = counted_layout (named_layout attribute_layout attribute_at)

unfoldable pub attributes_at : List ℕ → Option (List Attribute × List ℕ)
attributes_at octets = attributes_layout.read octets

abbrev pub attributes : List Attribute → List ℕ
attributes all = attributes_layout.write all

-- ---- servers: number, address, public key, interfaces

-- its number, address and public key
abbrev pub identity_layout : Layout (ℕ × (List ℕ × List ℕ))
identity_layout = pair_layout (number_layout w32) (pair_layout (octets_layout 16) string_layout)

unfoldable pub identity_at : List ℕ → Option ((ℕ × (List ℕ × List ℕ)) × List ℕ)
identity_at octets = identity_layout.read octets

abbrev pub server_of : (ℕ × (List ℕ × List ℕ)) × List Interface → SiteServer
server_of x = record { number = x.0.0; address = x.0.1.0; key = x.0.1.1; interfaces = x.1 }

abbrev pub server_parts : SiteServer → (ℕ × (List ℕ × List ℕ)) × List Interface
server_parts s = ((s.number, (s.address, s.key)), s.interfaces)

abbrev pub server_layout : Layout SiteServer
server_layout = seen_layout server_of server_parts (pair_layout (named_layout identity_layout identity_at) (named_layout interfaces_layout interfaces_at))

unfoldable pub server_at : List ℕ → Option (SiteServer × List ℕ)
server_at octets = server_layout.read octets

abbrev pub server : SiteServer → List ℕ
server s = server_layout.write s

abbrev pub servers_layout : Layout (List SiteServer)
servers_layout = counted_layout (named_layout server_layout server_at)

unfoldable pub servers_at : List ℕ → Option (List SiteServer × List ℕ)
servers_at octets = servers_layout.read octets

abbrev pub servers : List SiteServer → List ℕ
servers all = servers_layout.write all

-- ---- sites: a head of numbers and the hash filter, then attributes and servers

-- form, major and minor number of the protocol, serial number, primary mask, hash option, hash filter
abbrev pub Head : Type 0
Head = ℕ × (ℕ × (ℕ × (ℕ × (ℕ × (ℕ × List ℕ)))))

abbrev pub head_layout : Layout Head
head_layout = pair_layout (number_layout w16) (pair_layout octet_layout (pair_layout octet_layout (pair_layout (number_layout w16)
    (pair_layout octet_layout (pair_layout octet_layout string_layout)))))

unfoldable pub head_at : List ℕ → Option (Head × List ℕ)
head_at octets = head_layout.read octets

abbrev pub head : Head → List ℕ
head h = head_layout.write h

abbrev pub site_of : Head × (List Attribute × List SiteServer) → SiteInfo
site_of x = record { form = x.0.0; major = x.0.1.0; minor = x.0.1.1.0; serial = x.0.1.1.1.0; primary = x.0.1.1.1.1.0; hash_option = x.0.1.1.1.1.1.0; hash_filter = x.0.1.1.1.1.1.1; attributes = x.1.0; servers = x.1.1 }

abbrev pub head_of : SiteInfo → Head
head_of s = (s.form, (s.major, (s.minor, (s.serial, (s.primary, (s.hash_option, s.hash_filter))))))

abbrev pub site_layout : Layout SiteInfo
site_layout = seen_layout site_of (λ s. (head_of s, (s.attributes, s.servers)))
    (pair_layout (named_layout head_layout head_at) (pair_layout (named_layout attributes_layout attributes_at) (named_layout servers_layout servers_at)))

unfoldable pub site_at : List ℕ → Option (SiteInfo × List ℕ)
site_at octets = site_layout.read octets

unfoldable pub site_octets : SiteInfo → List ℕ
site_octets s = site_layout.write s

-- ---- what fits its fields

abbrev pub AreFew : {A : Type 0} → (A → Type 0) → List A → Type 0
AreFew fits all = (length all < 2 ^ 32) × AllByRecursion fits all

pub record InterfaceFits (i : Interface) : Type 0 where
  pub serves : i.serves < 2 ^ 8
  pub protocol : i.protocol < 2 ^ 8
  pub port : i.port < 2 ^ 32

pub record AttributeFits (a : Attribute) : Type 0 where
  pub name : IsString a.name
  pub text : IsString a.text

pub record ServerFits (s : SiteServer) : Type 0 where
  pub number : s.number < 2 ^ 32
  pub address : (length s.address ≡ 16) × AreOctets s.address
  pub key : IsString s.key
  pub interfaces : AreFew InterfaceFits s.interfaces

-- each part of the site fits its field
pub record SiteFits (s : SiteInfo) : Type 0 where
  pub form : s.form < 2 ^ 16
  pub version : (s.major < 2 ^ 8) × (s.minor < 2 ^ 8)
  pub serial : s.serial < 2 ^ 16
  pub primary : s.primary < 2 ^ 8
  pub hash : (s.hash_option < 2 ^ 8) × IsString s.hash_filter
  pub attributes : AreFew AttributeFits s.attributes
  pub servers : AreFew ServerFits s.servers

-- ---- what can be written: lengths and counts fit their four octets

abbrev pub IsShort : List ℕ → Type 0
IsShort octets = length octets < 2 ^ 32

abbrev pub IsWritableAttribute : Attribute → Type 0
IsWritableAttribute a = IsShort a.name × IsShort a.text

abbrev pub IsWritableServer : SiteServer → Type 0
IsWritableServer s = IsShort s.key × (length s.interfaces < 2 ^ 32)

pub record IsWritable (s : SiteInfo) : Type 0 where
  pub filter : IsShort s.hash_filter
  pub attributes : AreFew IsWritableAttribute s.attributes
  pub servers : AreFew IsWritableServer s.servers
