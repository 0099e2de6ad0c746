-- What the datagrams of a reply say on a connection, where it goes whole (docs/PROTOCOL.md, "Frames and pieces").
use Rattle.std.specs.Prelude.{ℕ, ◌==◌, not, ◌||◌, nat_lt, if◌then◌else◌, List, ◌++◌, length, drop}
use Rattle.std.specs.List.{flat_map}
use Rattle.hdl_frame.specs.declared.envelope.Envelope.{Envelope}
use Rattle.hdl_frame.specs.Envelope.{envelope_at, envelope_octets, is_truncated}

-- the envelope of the whole message of which this is that of a piece
abbrev pub whole_envelope : Envelope → Envelope
whole_envelope e = record e { flags = 0; sequence = 0 }

-- a piece's part of its whole message: the first has the envelope too
abbrev pub part_of : Envelope → List ℕ → List ℕ
part_of e payload = if e.sequence == 0 then envelope_octets (whole_envelope e) ++ payload else payload

-- what a datagram says: itself, or its piece's part
abbrev pub said_of : List ℕ → List ℕ
said_of d = if nat_lt (length d) 20 || not (is_truncated (envelope_at d)) then d else part_of (envelope_at d) (drop 20 d)

-- datagrams one after the other, each an envelope and a payload
abbrev pub said_by : List (List ℕ × List ℕ) → List ℕ
said_by ds = flat_map (λ d. said_of (d.0 ++ d.1)) ds
