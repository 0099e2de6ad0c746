-- How much of a reply may go to an address that nothing shows to be there (docs/PROTOCOL.md, "Replies to strangers").
use Rattle.std.specs.Prelude.{ℕ, ◌+◌, ◌*◌, Bool, false, ◌==◌, ◌&&◌, ◌||◌, nat_le, if◌then◌else◌, Option, Some, None}
use Rattle.hdl_frame.specs.Pieces.{datagram_count, piece_count}
use Rattle.hdl_msg.specs.declared.codes.ResponseCode.TheVariants.{Success}
use Rattle.hdl_msg.specs.Codes.{response_number}
use Rattle.hdl_peers.specs.declared.exchange.Exchange.{Exchange}
use Rattle.hdl_peers.specs.Followed.{Followed, is_response, operation_of}

-- the octets of a message of so many in this many datagrams, each of which begins with an envelope of 20
abbrev pub octets_in : ℕ → ℕ → ℕ
octets_in count length = 20 * count + length

-- the octets that asked: of a message in pieces all came
abbrev pub asked_octets : Exchange → ℕ
asked_octets e = octets_in (if e.is_piece then piece_count e.length else 1) e.length

-- the octets of a reply whose message has so many
abbrev pub reply_octets : ℕ → ℕ
reply_octets length = octets_in (datagram_count length) length

-- the reply to this is one datagram, or has at most so many times the octets that asked
abbrev pub is_within : ℕ → ℕ → Exchange → Bool
is_within times length e = datagram_count length == 1 || nat_le (reply_octets length) (times * asked_octets e)

-- something was asked, and the reply is within
abbrev pub is_within_last : ℕ → ℕ → Option Exchange → Bool
is_within_last times length None = false
is_within_last times length (Some e) = is_within times length e

-- the code is that of success
abbrev pub is_success : Option (ℕ × ℕ) → Bool
is_success None = false
is_success (Some reply) = reply.0 == response_number Success

-- who sent this answered a challenge: it was a challenge response, and the reply to it says success
abbrev pub answers_challenge : Followed → Option Exchange → Bool
answers_challenge f None = false
answers_challenge f (Some e) = is_response (operation_of e f.partials) && is_success e.reply
