-- A message in one frame, and a frame that is taken from a stream.
use Rattle.std.specs.Prelude.{◌≡◌, ℕ, ◌+◌, ◌^◌, ◌%◌, List, ◌++◌, length, drop, Option}
use Rattle.std.specs.Io.KnownBytes.{Appends, Keeps}
use Rattle.hdl_frame.specs.Envelope.{envelope_at, envelope_octets, message_envelope}
use Rattle.hdl_frame.specs.Frames.{IsFrame}
use Rattle.hdl_value.specs.declared.wire.Wire.{Wire}
use Rattle.hdl_client.specs.declared.exchange.OwnedFrame.{OwnedFrame}
use Rattle.hdl_client.specs.declared.transport.Transport.{Ghosts}
use Rattle.hdl_client.specs.Reply.{Delivery}

-- the frame of a message, by its SessionId and RequestId
abbrev pub frame_octets : ℕ → ℕ → List ℕ → List ℕ
frame_octets session request message = envelope_octets (message_envelope session request (length message)) ++ message

-- the RequestId after this one
abbrev pub next_number : ℕ → ℕ
next_number number = (number + 1) % 2 ^ 32

-- what came in a frame, its values by this layout
abbrev pub delivery_in : Wire → List ℕ → Delivery
delivery_in wire frame = record { wire = wire; envelope = envelope_at frame; message = drop 20 frame }

-- The octets that were taken are this frame's and no others.
pub record TakesFrame (before after : Option (List ℕ)) (found : OwnedFrame) : Type 0 where
  pub octets : List ℕ
  pub taken : Appends before after octets
  pub frame : IsFrame octets
  pub envelope : found.envelope ≡ envelope_at octets
  pub payload : found.payload.items ≡ drop 20 octets

-- The message was sent in one frame, under this SessionId and this RequestId, and one frame came, which carries the reply.
pub record Exchanged {T : Type 0} (g : Ghosts T) (wire : Wire) (session number : ℕ) (message : List ℕ) (before after : T) (reply : Delivery) : Type 0 where
  pub sent : Appends (g.sent before) (g.sent after) (frame_octets session number message)
  pub frame : List ℕ
  pub received : Appends (g.received before) (g.received after) frame
  pub whole : IsFrame frame
  pub carried : reply ≡ delivery_in wire frame
