-- The four kinds of line of a tenants text, by their fields.
use Rattle.std.specs.Prelude.{◌≡◌, ◌≤◌, ◌<◌, ◌^◌, ◌==◌, ℕ, List, [], ◌∷◌, length, codes, Ok, Option, Some, None, if◌then◌else◌}
use Rattle.std.specs.List.{slice_split}
use Rattle.std.specs.Str.{bytes_eq}
use Rattle.std.specs.Str.Parse.{IsNumeral, digits_value}
use Rattle.hex.specs.Hex.{decode_of}
use Rattle.hdl_auth.specs.declared.algorithm.Algorithm.{Algorithm}
use Rattle.hdl_auth.specs.declared.algorithm.Algorithm.TheVariants.{Sha1, Sha256}
use Rattle.hdl_name.specs.Name.{IsHandle}
use Rattle.hdl_value.specs.declared.value.Value.{Value}
use Rattle.hdl_value.specs.declared.wire.Wire.{Wire}
use Rattle.hdl_value.specs.declared.wire.Wire.TheVariants.{Profile, HandleNet}
use Rattle.hdl_value.specs.Fault.{Begins, IsSound}
use Rattle.hdl_tenants.specs.declared.sites.TheConstants.{SITE_MAX}
use Rattle.hdl_tenants.specs.Register.{Publisher, IsPublisher, IsPrefix}

-- what stands between the single spaces of a line
abbrev pub fields_of : List ℕ → List (List ℕ)
fields_of line = slice_split (λ octet. octet == 32) line

-- decimal digits, and the number of 16 bits that they spell
pub record IsDecimal (digits : List ℕ) (n : ℕ) : Type 0 where
  pub numeral : IsNumeral 10 digits
  pub value : n ≡ digits_value 10 digits
  pub fits : n < 2 ^ 16

-- the layout by the fields behind a publisher's port: our profile's where there are none
abbrev pub wire_in : List (List ℕ) → Option Wire
wire_in [] = Some Profile
wire_in (field ∷ []) = if bytes_eq field (codes "handle-net") then Some HandleNet else None
wire_in (field ∷ _ ∷ _) = None

-- `publisher NAME LANES PORT`, or with a field more for the layout of values
pub record IsPublisherLine (fields : List (List ℕ)) (p : Publisher) : Type 0 where
  pub lanes_text : List ℕ
  pub port_text : List ℕ
  pub more : List (List ℕ)
  pub split : fields ≡ codes "publisher" ∷ p.name ∷ lanes_text ∷ port_text ∷ more
  pub layout : wire_in more ≡ Some p.wire
  pub lanes_read : IsDecimal lanes_text p.lanes
  pub port_read : IsDecimal port_text p.port
  pub sound : IsPublisher p

-- the hash function that one field names: its octet in decimal
abbrev pub algorithm_named : List ℕ → Option Algorithm
algorithm_named field = if bytes_eq field (codes "2") then Some Sha1 else (if bytes_eq field (codes "3") then Some Sha256 else None)

-- the hash function by the fields behind a prefix and its publisher: SHA-1 where there are none
abbrev pub algorithm_in : List (List ℕ) → Option Algorithm
algorithm_in [] = Some Sha1
algorithm_in (field ∷ []) = algorithm_named field
algorithm_in (field ∷ _ ∷ _) = None

-- `prefix PREFIX NAME`, or with a field more for the hash function
pub record IsPrefixLine (fields : List (List ℕ)) (prefix name : List ℕ) (algorithm : Algorithm) : Type 0 where
  pub more : List (List ℕ)
  pub split : fields ≡ codes "prefix" ∷ prefix ∷ name ∷ more
  pub hash : algorithm_in more ≡ Some algorithm
  pub sound : IsPrefix prefix

-- hexadecimal digits of either case that spell these octets, for which a reply has room
pub record IsSiteText (text octets : List ℕ) : Type 0 where
  pub decoded : decode_of text ≡ Ok octets
  pub few : length octets ≤ SITE_MAX

-- `site NAME HEX`
pub record IsSiteLine (fields : List (List ℕ)) (name octets : List ℕ) : Type 0 where
  pub digits : List ℕ
  pub split : fields ≡ codes "site" ∷ name ∷ digits ∷ []
  pub text : IsSiteText digits octets

-- hexadecimal digits of either case that spell this value, which keeps the limits, and nothing behind it
pub record IsValueText (text : List ℕ) (v : Value) : Type 0 where
  pub octets : List ℕ
  pub decoded : decode_of text ≡ Ok octets
  pub spelt : Begins octets v []
  pub sound : IsSound v

-- `value HANDLE HEX`
pub record IsValueLine (fields : List (List ℕ)) (handle : List ℕ) (v : Value) : Type 0 where
  pub digits : List ℕ
  pub split : fields ≡ codes "value" ∷ handle ∷ digits ∷ []
  pub named : IsHandle handle
  pub value : IsValueText digits v
