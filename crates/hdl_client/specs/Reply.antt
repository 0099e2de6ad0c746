-- A reply that came.
use Rattle.std.specs.Prelude.{◌≡◌, ◌≢◌, ◌⊎◌, ℕ, List, true, false}
use Rattle.hdl_frame.specs.declared.envelope.Envelope.{Envelope}
use Rattle.hdl_frame.specs.Envelope.{is_truncated}
use Rattle.hdl_value.specs.declared.wire.Wire.{Wire}
use Rattle.hdl_msg.specs.Reply.{ReplyParts, SpellsReply}

-- a message under its envelope, and by whose layout its values stand
pub record Delivery : Type 0 where
  pub wire : Wire
  pub envelope : Envelope
  pub message : List ℕ

-- the octets are the message of some reply, by this layout of values
abbrev pub IsReplyMessage : Wire → List ℕ → Type 0
IsReplyMessage wire message = (parts : ReplyParts) × SpellsReply wire message parts

-- The message came whole in one frame, and is that of a reply.
pub record IsReply (wire : Wire) (envelope : Envelope) (message : List ℕ) : Type 0 where
  pub whole : is_truncated envelope ≡ false
  pub read : IsReplyMessage wire message

-- The delivery is a reply, by this layout, to the request with this number.
pub record IsReplyTo (wire : Wire) (request : ℕ) (came : Delivery) : Type 0 where
  pub by_wire : came.wire ≡ wire
  pub reply : IsReply came.wire came.envelope came.message
  pub own : came.envelope.request ≡ request

-- a piece of a message, a message for another request, or one that no reply spells by this layout
abbrev pub IsNoReplyTo : Wire → ℕ → Envelope → List ℕ → Type 0
IsNoReplyTo wire request envelope message = (is_truncated envelope ≡ true) ⊎ ((envelope.request ≢ request) ⊎ ¬ (IsReplyMessage wire message))
