-- A message that comes in pieces (docs/PROTOCOL.md, "Frames and pieces"). All its pieces say how many octets it has; of
-- pieces with the same number the first counts.
use Rattle.std.specs.Prelude.{◌≡◌, ◌==◌, ℕ, ◌-◌, ◌*◌, ◌<◌, min, List, [], ◌∷◌, ◌++◌, length, map, find, All, Option, Some, None, option_map}
use Rattle.std.specs.List.{range_with_len}
use Rattle.hdl_limits.specs.declared.TheConstants.{PIECE_LEN}
use Rattle.hdl_frame.specs.Pieces.{piece_count, stretch}

-- the number that its envelope gives, and its payload
pub record Piece : Type 0 where
  pub number : ℕ
  pub payload : List ℕ

-- the payload of the first piece with this number
abbrev pub payload_of : List Piece → ℕ → Option (List ℕ)
payload_of pieces k = option_map (λ p. p.payload) (find (λ p. p.number == k) pieces)

-- The pieces make this message of len octets: each of its numbers came, and its stretch at PIECE_LEN * k is the payload of the
-- first piece with number k.
pub record MakeMessage (pieces : List Piece) (len : ℕ) (message : List ℕ) : Type 0 where
  pub whole : length message ≡ len
  pub each : (k : ℕ) → k < piece_count len → payload_of pieces k ≡ Some (stretch message k)

-- a payload before those that follow it, if these came
abbrev pub before : List ℕ → Option (List ℕ) → Option (List ℕ)
before payload None = None
before payload (Some rest) = Some (payload ++ rest)

-- the payloads one after the other, if each came; else none
abbrev pub whole_payload : List (Option (List ℕ)) → Option (List ℕ)
whole_payload [] = Some []
whole_payload (None ∷ rest) = None
whole_payload (Some payload ∷ rest) = before payload (whole_payload rest)

-- for each number of a message of len octets, the payload of the first piece with it, if one came
abbrev pub payloads_of : List Piece → ℕ → List (Option (List ℕ))
payloads_of pieces len = map (payload_of pieces) (range_with_len 0 (piece_count len))

-- the message that pieces make, if each of its numbers came; else none
abbrev pub message_of : List Piece → ℕ → Option (List ℕ)
message_of pieces len = whole_payload (payloads_of pieces len)

-- each piece has the payload that an accepted envelope with its number gives a frame
abbrev pub HaveTheirLength : List Piece → ℕ → Type 0
HaveTheirLength pieces len = All (λ p. length p.payload ≡ min PIECE_LEN (len - PIECE_LEN * p.number)) pieces
