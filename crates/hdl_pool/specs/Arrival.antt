-- A piece as the code passes it on.
use Rattle.hdl_pool.specs.declared.piece.Arrival.{Arrival}
use Rattle.hdl_pool.specs.Partial.{Piece}

-- the piece that arrived
abbrev pub piece_in : Arrival → Piece
piece_in a = record { key = a.key; length = a.message_len; number = a.number; payload = a.payload.now }
