-- A request, in the words of the tables of decision.
use Rattle.std.specs.Prelude.{ℕ, List, [], Bool, true, false, Option, Some, None, map}
use Rattle.hdl_name.specs.Name.{canonical}
use Rattle.hdl_value.specs.declared.value.Value.{Value}
use Rattle.hdl_value.specs.declared.wire.Wire.{Wire}
use Rattle.hdl_value.specs.Padding.{stored_by}
use Rattle.hdl_msg.specs.Codes.{has_flag}
use Rattle.hdl_msg.specs.declared.codes.OpFlag.TheVariants.{PublicOnly, ReturnDigest}
use Rattle.hdl_msg.specs.Message.{Content, Operation, resolution, site_info, create, delete, add, remove, modify, list, response, other}

-- the handle that an operation names, as it was sent
abbrev pub sent_handle : Operation → List ℕ
sent_handle (resolution handle indexes types) = handle
sent_handle (create handle values) = handle
sent_handle (delete handle) = handle
sent_handle (add handle values) = handle
sent_handle (remove handle indexes) = handle
sent_handle (modify handle values) = handle
sent_handle (list handle) = handle
sent_handle (response kind handle index answer) = []
sent_handle (site_info octets) = []
sent_handle (other octets) = []

-- that handle in canonical form
unfoldable pub handle_of : Content → List ℕ
handle_of r = canonical (sent_handle r.operation)

-- No table decides it: a challenge response, which is not decided by itself, a question for site information, or an operation
-- that isn't offered.
abbrev pub is_unused : Operation → Bool
is_unused (response kind handle index answer) = true
is_unused (site_info octets) = true
is_unused (other octets) = true
is_unused _ = false

abbrev pub resolves : Operation → Bool
resolves (resolution handle indexes types) = true
resolves _ = false

abbrev pub creates : Operation → Bool
creates (create handle values) = true
creates _ = false

-- it makes a handle or takes one away
abbrev pub creates_or_deletes : Operation → Bool
creates_or_deletes (create handle values) = true
creates_or_deletes (delete handle) = true
creates_or_deletes _ = false

-- it asks for the handles of a naming authority
abbrev pub is_list : Operation → Bool
is_list (list handle) = true
is_list _ = false

-- public values only (PO)
abbrev pub is_public_only : Content → Bool
is_public_only r = has_flag r.header.op_flag PublicOnly

-- return the request's digest (RD)
abbrev pub wants_digest : Content → Bool
wants_digest r = has_flag r.header.op_flag ReturnDigest

-- ---- what a write stores

-- the operation with the values that are stored where they came by this layout
abbrev pub with_stored : Wire → Operation → Operation
with_stored wire (resolution handle indexes types) = resolution handle indexes types
with_stored wire (create handle values) = create handle (map (stored_by wire) values)
with_stored wire (delete handle) = delete handle
with_stored wire (add handle values) = add handle (map (stored_by wire) values)
with_stored wire (remove handle indexes) = remove handle indexes
with_stored wire (modify handle values) = modify handle (map (stored_by wire) values)
with_stored wire (list handle) = list handle
with_stored wire (response kind handle index answer) = response kind handle index answer
with_stored wire (site_info octets) = site_info octets
with_stored wire (other octets) = other octets

-- the same of a request
abbrev pub stored_operation : Content → Operation
stored_operation r = with_stored r.wire r.operation

-- ---- challenge responses

-- the fields of a challenge response: authentication type, key, and the response string
pub record Response : Type 0 where
  pub kind : List ℕ
  pub handle : List ℕ
  pub index : ℕ
  pub answer : List ℕ

abbrev pub response_of : Operation → Option Response
response_of (response kind handle index answer) = Some (record { kind = kind; handle = handle; index = index; answer = answer })
response_of _ = None
