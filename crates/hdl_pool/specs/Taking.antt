-- What becomes of a piece, and of the partial messages of its lane (docs/PROTOCOL.md, "Frames and pieces" and "One event").
-- A lane is the list of its partial messages, the oldest first.
use Rattle.std.specs.Prelude.{ℕ, Bool, nat_eq, nat_lt, not, ◌||◌, if◌then◌else◌, List, [], ◌∷◌, ◌++◌, length, drop, filter, find, slice_index_or, Option, Some, None, is_some, unwrap_or}
use Rattle.std.specs.Option.{option_map_or}
use Rattle.hdl_limits.specs.declared.TheConstants.{PARTIALS_MAX}
use Rattle.hdl_pool.specs.declared.piece.MessageKey.{MessageKey}
use Rattle.hdl_pool.specs.declared.taken.Taken.{Taken}
use Rattle.hdl_pool.specs.declared.taken.Taken.TheVariants.{Whole, Kept, Ignored, Displaced}
use Rattle.hdl_pool.specs.Partial.{Piece, Partial, is_of, nothing_of, payload_at, with_payload, whole}

-- what became of a piece: it made this message whole, or it was kept, ignored, or kept in place of the oldest message
pub data Fate : Type 0 where
  made_whole : (message : List ℕ) → Fate
  kept : Fate
  ignored : Fate
  displaced : Fate

-- the partial messages of the lane with this number
abbrev pub lane_at : List (List Partial) → ℕ → List Partial
lane_at lanes lane = slice_index_or lanes lane []

-- what came of the piece's message before the piece
abbrev pub so_far : List Partial → Piece → Partial
so_far lane piece = unwrap_or (find (is_of piece.key) lane) (nothing_of piece.key piece.length)

-- the piece doesn't count: it says another length, or one with its number came before
abbrev pub is_ignored : Partial → Piece → Bool
is_ignored p piece = not (nat_eq p.length piece.length) || is_some (payload_at p piece.number)

-- the partial message with the piece
abbrev pub with_piece : Partial → Piece → Partial
with_piece p piece = with_payload p piece.number piece.payload

-- what becomes of a piece, and of its partial message: if the piece makes it whole, it stays as it was
abbrev pub after_piece : Partial → Piece → Fate × Partial
after_piece p piece =
    if is_ignored p piece then (ignored, p)
    else option_map_or (λ message. (made_whole message, p)) (whole (with_piece p piece)) (kept, with_piece p piece)

-- the lane with this partial message in place of the one with this key
abbrev pub replace_partial : MessageKey → Partial → List Partial → List Partial
replace_partial key more [] = []
replace_partial key more (p ∷ ps) = if is_of key p then more ∷ ps else p ∷ replace_partial key more ps

-- the lane with a partial message of a new key, which displaces the oldest of four
abbrev pub begin_partial : List Partial → Partial → Fate × List Partial
begin_partial lane first = if nat_lt (length lane) PARTIALS_MAX then (kept, lane ++ first ∷ []) else (displaced, drop 1 lane ++ first ∷ [])

-- the lane with a partial message that has one more piece
abbrev pub store_partial : List Partial → MessageKey → Partial → Fate × List Partial
store_partial lane key more = if is_some (find (is_of key) lane) then (kept, replace_partial key more lane) else begin_partial lane more

-- only a piece that is kept changes the lane
abbrev pub store_if_kept : List Partial → MessageKey → Fate → Partial → Fate × List Partial
store_if_kept lane key kept more = store_partial lane key more
store_if_kept lane key (made_whole message) more = (made_whole message, lane)
store_if_kept lane key ignored more = (ignored, lane)
store_if_kept lane key displaced more = (displaced, lane)

-- what becomes of a piece, and of its lane
abbrev pub take_piece : List Partial → Piece → Fate × List Partial
take_piece lane piece = let after = after_piece (so_far lane piece) piece in store_if_kept lane piece.key after.0 after.1

-- the whole message, if the piece makes it whole
abbrev pub whole_message : Fate → Option (List ℕ)
whole_message (made_whole message) = Some message
whole_message kept = None
whole_message ignored = None
whole_message displaced = None

-- the lane without the partial message of this key
abbrev pub free_partial : List Partial → MessageKey → List Partial
free_partial lane key = filter (λ p. not (is_of key p)) lane

-- the answer of `take`
abbrev pub fate_of : Taken → Fate
fate_of (Whole message) = made_whole message.items
fate_of Kept = kept
fate_of Ignored = ignored
fate_of Displaced = displaced
