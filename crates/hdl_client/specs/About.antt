-- What a reply is about: the operation that was asked for, and the handle.
use Rattle.std.specs.Prelude.{◌≡◌, ⊤, ℕ, List, [], All}
use Rattle.hdl_name.specs.Name.{IsHandle, prefix, sent_prefix}
use Rattle.hdl_value.specs.declared.wire.Wire.{Wire}
use Rattle.hdl_msg.specs.declared.codes.ResponseCode.TheVariants.{Success}
use Rattle.hdl_msg.specs.declared.replies.ReplyContent.{ReplyContent}
use Rattle.hdl_msg.specs.declared.replies.ReplyContent.TheVariants.{Values, Handles, Nothing, Referral, Nonce, Empty, Site}
use Rattle.hdl_msg.specs.Codes.{response_number}
use Rattle.hdl_msg.specs.Message.{Content, Operation, resolution, site_info, create, delete, add, remove, modify, list, response, other, SpellsRequest}
use Rattle.hdl_msg.specs.Reply.{ReplyParts, SpellsReply}

-- the handle that a request names, as it was sent
abbrev pub named_handle : Operation → List ℕ
named_handle (resolution handle indexes types) = handle
named_handle (create handle values) = handle
named_handle (delete handle) = handle
named_handle (add handle values) = handle
named_handle (remove handle indexes) = handle
named_handle (modify handle values) = handle
named_handle (list handle) = handle
named_handle (response kind handle index answer) = handle
named_handle (site_info octets) = []
named_handle (other octets) = []

-- a handle of this prefix
abbrev pub IsUnder : List ℕ → List ℕ → Type 0
IsUnder asked handle = IsHandle handle × (prefix handle ≡ asked)

-- what is carried is of this handle: values are its own, the handles of a list have its prefix, and a referral is to the service of its prefix
abbrev pub IsOf : List ℕ → ReplyContent → Type 0
IsOf handle (Values wire named values) = named ≡ handle
IsOf handle (Handles handles) = IsHandle handle × All (IsUnder (prefix handle)) handles
IsOf handle Nothing = ⊤
IsOf handle (Referral to) = IsHandle handle × (to ≡ sent_prefix handle)
IsOf handle (Nonce nonce) = ⊤
IsOf handle Empty = ⊤
IsOf handle (Site octets) = ⊤

-- The reply is about this operation on this handle: what is said to be done is the operation, and what is carried is of the handle.
pub record IsAbout (operation : ℕ) (handle : List ℕ) (reply : ReplyParts) : Type 0 where
  pub done : reply.header.response_code ≡ response_number Success → reply.header.op_code ≡ operation
  pub carried : IsOf handle reply.content

-- the reply is about what the request with this message asks, whose values stand by this layout
abbrev pub IsAnswerTo : Wire → List ℕ → ReplyParts → Type 0
IsAnswerTo wire message reply = (asked : Content) × SpellsRequest wire message asked × IsAbout asked.header.op_code (named_handle asked.operation) reply

-- the message is that of such a reply, by the same layout
abbrev pub AnswersRequest : Wire → List ℕ → List ℕ → Type 0
AnswersRequest wire message came = (reply : ReplyParts) × SpellsReply wire came reply × IsAnswerTo wire message reply
