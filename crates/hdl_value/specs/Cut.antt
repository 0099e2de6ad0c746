-- The reader of an administrator, and values in place.
use Rattle.std.specs.Prelude.{◌≡◌, ℕ, List, [], length, Option, Some}
use Rattle.std.specs.Option.{option_map_or}
use Rattle.std.specs.Int.{w16}
use Rattle.hdl_value.specs.declared.references.RawRef.{RawRef}
use Rattle.hdl_value.specs.declared.references.RawReference.{RawReference}
use Rattle.hdl_value.specs.declared.references.RawReferences.{RawReferences}
use Rattle.hdl_value.specs.declared.value.Value.{Value}
use Rattle.hdl_value.specs.declared.cut.RawValue.{RawValue}
use Rattle.hdl_value.specs.Reading.{number_at, pair_at, many_at}
use Rattle.hdl_value.specs.Spelling.{ref_at, Fits}

-- a mask and a reference
unfoldable pub admin_at : List ℕ → Option ((ℕ × RawRef) × List ℕ)
admin_at octets = pair_at (number_at w16) ref_at octets

-- ---- what the octets contain, as a value

-- a reference, a list of them, a value
abbrev pub ref_view : RawReference → RawRef
ref_view r = record { handle = r.handle.now; index = r.index }

abbrev pub refs_view : RawReferences → List RawRef
refs_view r = option_map_or (λ x. x.0) (many_at ref_at r.count r.octets.now) []

abbrev pub value_view : RawValue → Value
value_view v = record { index = v.index; kind = v.kind.now; bytes = v.bytes.now; ttl = v.ttl; permissions = v.permissions; timestamp = v.timestamp; references = refs_view v.references }

-- the octets are those of this number of references, and no others
pub record IsWhole (r : RawReferences) : Type 0 where
  pub count : length (refs_view r) ≡ r.count
  pub all : many_at ref_at r.count r.octets.now ≡ Some (refs_view r, [])

-- the fields are those of a value that was cut
pub record IsCut (v : RawValue) : Type 0 where
  pub fits : Fits (value_view v)
  pub whole : IsWhole v.references
