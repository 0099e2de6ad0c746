-- What follows from the definitions: a partial message is the pieces that came, and a whole one is the message of its pieces (docs/PROTOCOL.md, "Frames and pieces").
use Rattle.std.specs.Prelude.{◌≡◌, ◌≢◌, ℕ, ◌≤◌, List, [], ◌∷◌, ◌++◌, length, find, Some, None}
use Rattle.hdl_frame.specs.Whole.{Piece as Numbered, payload_of, payloads_of, MakeMessage, HaveTheirLength}
use Rattle.hdl_limits.specs.declared.TheConstants.{PARTIALS_MAX}
use Rattle.hdl_pool.specs.declared.piece.MessageKey.{MessageKey}
use Rattle.hdl_pool.specs.Partial.{Piece, Partial, IsPiece, is_of, nothing_of}
use Rattle.hdl_pool.specs.Taking.{made_whole, kept, ignored, displaced, so_far, after_piece, take_piece, free_partial}

-- a piece among those of its message
abbrev pub numbered_piece : Piece → Numbered
numbered_piece piece = record { number = piece.number; payload = piece.payload }

-- the partial message of which these pieces came, in this order
abbrev pub collect : MessageKey → ℕ → List Numbered → Partial
collect key len pieces = record { key = key; length = len; pieces = payloads_of pieces len }

-- before the first piece nothing came
abbrev pub NothingCame : Type 0
NothingCame = (key : MessageKey) (len : ℕ) → nothing_of key len ≡ collect key len []

-- a kept piece is the last that came
abbrev pub KeptIsCollected : Type 0
KeptIsCollected = (pieces : List Numbered) (piece : Piece) → IsPiece piece → (after_piece (collect piece.key piece.length pieces) piece).0 ≡ kept
    → (after_piece (collect piece.key piece.length pieces) piece).1 ≡ collect piece.key piece.length (pieces ++ numbered_piece piece ∷ [])

-- a piece whose number came is ignored, and changes nothing
abbrev pub RepeatedIsIgnored : Type 0
RepeatedIsIgnored = (pieces : List Numbered) (piece : Piece) (payload : List ℕ) → IsPiece piece → payload_of pieces piece.number ≡ Some payload
    → after_piece (collect piece.key piece.length pieces) piece ≡ (ignored, collect piece.key piece.length (pieces ++ numbered_piece piece ∷ []))

-- a whole message is the one that the pieces make
abbrev pub WholeIsMessage : Type 0
WholeIsMessage = (pieces : List Numbered) (piece : Piece) (message : List ℕ) → IsPiece piece → HaveTheirLength (pieces ++ numbered_piece piece ∷ []) piece.length
    → (after_piece (collect piece.key piece.length pieces) piece).0 ≡ made_whole message → MakeMessage (pieces ++ numbered_piece piece ∷ []) piece.length message

-- a message that the pieces make with one whose number didn't come is whole
abbrev pub MessageIsWhole : Type 0
MessageIsWhole = (pieces : List Numbered) (piece : Piece) (message : List ℕ) → IsPiece piece → payload_of pieces piece.number ≡ None
    → MakeMessage (pieces ++ numbered_piece piece ∷ []) piece.length message → (after_piece (collect piece.key piece.length pieces) piece).0 ≡ made_whole message

-- after a piece, what came of the message is what came before and the piece
abbrev pub TakenIsSoFar : Type 0
TakenIsSoFar = (lane : List Partial) (piece : Piece) → so_far (take_piece lane piece).1 piece ≡ (after_piece (so_far lane piece) piece).1

-- a piece that displaces nothing changes no other message of its lane
abbrev pub OthersStay : Type 0
OthersStay = (lane : List Partial) (piece : Piece) (key : MessageKey) → key ≢ piece.key → (take_piece lane piece).0 ≢ displaced → find (is_of key) (take_piece lane piece).1 ≡ find (is_of key) lane

-- what was freed isn't found
abbrev pub FreedIsGone : Type 0
FreedIsGone = (lane : List Partial) (key : MessageKey) → find (is_of key) (free_partial lane key) ≡ None

-- a lane has at most four
abbrev pub AtMostFour : Type 0
AtMostFour = (lane : List Partial) (piece : Piece) → length lane ≤ PARTIALS_MAX → length (take_piece lane piece).1 ≤ PARTIALS_MAX
