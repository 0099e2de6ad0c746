-- A request's message, and what of it matters to other requests.
use Rattle.std.specs.Prelude.{◌≡◌, ◌↔◌, ℕ, Bool, true, false, List, All}
use Rattle.hdl_name.specs.Name.{canonical, is_admin}
use Rattle.hdl_value.specs.declared.value.Value.{Value}
use Rattle.hdl_value.specs.declared.wire.Wire.{Wire}
use Rattle.hdl_value.specs.Refs.{is_list, is_secret_key}
use Rattle.hdl_msg.specs.Message.{Content, Operation, resolution, site_info, create, delete, add, remove, modify, list, response, other, SpellsRequest}
use Rattle.hdl_client.specs.About.{named_handle}

-- a request's octets, by whose layout its values stand, the canonical form of its handle, and whether it is asked alone
pub record Asked : Type 0 where
  pub wire : Wire
  pub octets : List ℕ
  pub handle : List ℕ
  pub is_alone : Bool

-- no one's rights rest on the value: it is no key, and no list of keys
abbrev pub IsPlain : Value → Type 0
IsPlain value = (is_secret_key value ≡ false) × (is_list value ≡ false)

-- What it does changes nothing that requests for other handles need: it reads, or it writes plain values, of a handle that isn't administrative.
abbrev pub DisturbsNone : Operation → Type 0
DisturbsNone (resolution handle indexes types) = is_admin handle ≡ false
DisturbsNone (site_info octets) = ⊥
DisturbsNone (create handle values) = (is_admin handle ≡ false) × All IsPlain values
DisturbsNone (delete handle) = ⊥
DisturbsNone (add handle values) = (is_admin handle ≡ false) × All IsPlain values
DisturbsNone (remove handle indexes) = ⊥
DisturbsNone (modify handle values) = ⊥
DisturbsNone (list handle) = ⊥
DisturbsNone (response kind handle index answer) = ⊥
DisturbsNone (other octets) = ⊥

-- The octets are the message of a request of this handle, which is asked alone unless it disturbs none.
pub record Spells (wire : Wire) (octets handle : List ℕ) (is_alone : Bool) : Type 0 where
  pub content : Content
  pub spelt : SpellsRequest wire octets content
  pub named : handle ≡ canonical (named_handle content.operation)
  pub alone : (is_alone ≡ false) ↔ DisturbsNone content.operation
