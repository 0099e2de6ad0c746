-- A message of which pieces came (docs/PROTOCOL.md, "Frames and pieces").
use Rattle.std.specs.Prelude.{ℕ, ◌*◌, ◌<◌, ◌≤◌, Bool, ◌&&◌, nat_eq, List, drop, replicate, slice_set, slice_index_or, Option, Some, None}
use Rattle.hdl_frame.specs.declared.envelope.Envelope.{Envelope}
use Rattle.hdl_frame.specs.Envelope.{envelope_at}
use Rattle.hdl_frame.specs.Pieces.{piece_count}
use Rattle.hdl_frame.specs.Whole.{whole_payload}
use Rattle.hdl_limits.specs.declared.TheConstants.{MESSAGE_MAX, PIECE_LEN}
use Rattle.hdl_pool.specs.declared.piece.MessageKey.{MessageKey}

-- a piece: whose message it belongs to, how long that message is, the piece's number and its payload
pub record Piece : Type 0 where
  pub key : MessageKey
  pub length : ℕ
  pub number : ℕ
  pub payload : List ℕ

-- the piece begins before its message's end, and the message keeps the limit
pub record IsPiece (piece : Piece) : Type 0 where
  pub begins : PIECE_LEN * piece.number < piece.length
  pub limit : piece.length ≤ MESSAGE_MAX

-- a partial message: whose it is, how long, and for each number the payload of the first piece with it, if one came
pub record Partial : Type 0 where
  pub key : MessageKey
  pub length : ℕ
  pub pieces : List (Option (List ℕ))

-- whose message a frame of this peer belongs to
abbrev pub key_of : ℕ → Envelope → MessageKey
key_of peer e = record { peer = peer; session = e.session; request = e.request }

-- the piece that a frame of this peer is, by the frame's octets
abbrev pub piece_of : ℕ → List ℕ → Piece
piece_of peer octets = record {
  key = key_of peer (envelope_at octets);
  length = (envelope_at octets).length;
  number = (envelope_at octets).sequence;
  payload = drop 20 octets;
}

-- the partial message is this key's
abbrev pub is_of : MessageKey → Partial → Bool
is_of key p = nat_eq p.key.peer key.peer && nat_eq p.key.session key.session && nat_eq p.key.request key.request

-- one of which nothing came
abbrev pub nothing_of : MessageKey → ℕ → Partial
nothing_of key len = record { key = key; length = len; pieces = replicate (piece_count len) None }

-- the payload with this number, if it came
abbrev pub payload_at : Partial → ℕ → Option (List ℕ)
payload_at p number = slice_index_or p.pieces number None

-- with this payload under this number
abbrev pub with_payload : Partial → ℕ → List ℕ → Partial
with_payload p number payload = record p { pieces = slice_set p.pieces number (Some payload) }

-- the message, if every piece came
abbrev pub whole : Partial → Option (List ℕ)
whole p = whole_payload p.pieces
