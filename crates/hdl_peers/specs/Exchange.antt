-- A frame that came, and what the reply to it says (docs/PROTOCOL.md, "Envelope" and "Message").
use Rattle.std.specs.Prelude.{ℕ, ◌+◌, Bool, not, ◌==◌, ◌||◌, nat_le, if◌then◌else◌, List, length, Option, Some, None, option_map}
use Rattle.hdl_frame.specs.declared.envelope.Envelope.{Envelope}
use Rattle.hdl_frame.specs.Envelope.{envelope_at, is_truncated, u32_at}
use Rattle.hdl_peers.specs.declared.kept.MessageKey.{MessageKey}
use Rattle.hdl_peers.specs.declared.exchange.Exchange.{Exchange}

-- the number in the four octets from this place on, if there are so many
abbrev pub number_at : List ℕ → ℕ → Option ℕ
number_at octets place = if nat_le (place + 4) (length octets) then Some (u32_at octets place) else None

-- whose message a frame of the peer with this number belongs to
abbrev pub key_of : ℕ → Envelope → MessageKey
key_of number e = record { number = number; session = e.session; request = e.request }

-- a frame has the front of its message, unless it is a later piece
abbrev pub has_front : Envelope → Bool
has_front e = not (is_truncated e) || e.sequence == 0

-- a frame of the peer with this number, unanswered; the operation stands first in the message
abbrev pub exchange_of : ℕ → Envelope → List ℕ → Exchange
exchange_of number e octets = record {
  key = key_of number e;
  is_piece = is_truncated e;
  length = e.length;
  operation = if has_front e then number_at octets 20 else None;
  reply = None;
}

-- the code and the SessionId of a reply, where the datagram has its front
abbrev pub reply_of : List ℕ → Option (ℕ × ℕ)
reply_of datagram =
    if (envelope_at datagram).sequence == 0
    then option_map (λ code. (code, (envelope_at datagram).session)) (number_at datagram 24)
    else None

-- the reply is known by its first datagram that tells it
abbrev pub known_by : List ℕ → Option (ℕ × ℕ) → Option (ℕ × ℕ)
known_by datagram None = reply_of datagram
known_by datagram (Some reply) = Some reply

-- with a datagram of the reply to it
abbrev pub with_reply : List ℕ → Exchange → Exchange
with_reply datagram e = record e { reply = known_by datagram e.reply }
