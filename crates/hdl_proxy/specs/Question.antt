-- What the message of a question says.
use Rattle.std.specs.Prelude.{◌≡◌, ◌<◌, ℕ, true, List}
use Rattle.hdl_limits.specs.declared.TheConstants.{MESSAGE_MAX}
use Rattle.hdl_value.specs.declared.wire.Wire.TheVariants.{Profile}
use Rattle.hdl_msg.specs.Codes.{has_flag}
use Rattle.hdl_msg.specs.declared.codes.OpFlag.TheVariants.{PublicOnly}
use Rattle.hdl_msg.specs.Message.{Content, Operation, SpellsRequest, resolution}
use Rattle.hdl_msg.specs.RequestBody.{requested_operation, request_length}
use Rattle.hdl_msg.specs.declared.request_body.RequestBody.{RequestBody}
use Rattle.hdl_proxy.specs.declared.question.Question.{Question}

-- the octets are a request for this, by our profile's layout, of which it shows what anybody may read
abbrev pub IsPublicRequest : List ℕ → Operation → Type 0
IsPublicRequest octets asked =
    (content : Content) × (SpellsRequest Profile octets content × (has_flag content.header.op_flag PublicOnly ≡ true) × (content.operation ≡ asked))

-- they are the request for these values of this handle
abbrev pub AsksInPublic : List ℕ → Question → Type 0
AsksInPublic octets question = IsPublicRequest octets (resolution question.name question.indexes.items question.types.items)

-- the request for these values of this handle has more octets than a message may
abbrev pub IsTooLong : Question → Type 0
IsTooLong question =
    (body : RequestBody) × (requested_operation body ≡ resolution question.name question.indexes.items question.types.items) × (MESSAGE_MAX < request_length Profile body)
