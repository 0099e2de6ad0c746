-- The envelope of a message: the layout of its 20 octets, which envelopes are accepted, and how long the payload is
-- (RFC 3652, section 2.1, in this project's profile: docs/PROTOCOL.md, "Envelope" and "Frames and pieces").
use Rattle.std.specs.Prelude.{ℕ, ◌+◌, ◌-◌, ◌*◌, ◌<◌, ◌^◌, min, Bool, not, ◌&&◌, ◌||◌, ◌==◌, nat_lt, nat_le, if◌then◌else◌, List, [], ◌∷◌, ◌++◌, slice_index, bit_and, Option, Some, None}
use Rattle.std.specs.Int.{w16, w32, to_be_bytes, from_be_bytes}
use Rattle.hdl_limits.specs.declared.TheConstants.{MESSAGE_MAX, PIECE_LEN}
use Rattle.hdl_frame.specs.declared.envelope.Envelope.{Envelope}
use Rattle.hdl_frame.specs.declared.envelope.FrameFault.{FrameFault}
use Rattle.hdl_frame.specs.declared.envelope.FrameFault.TheVariants.{Version, Flags, TooLong}

-- the number in the two or the four octets from place i on, highest octet first
abbrev pub u16_at : List ℕ → ℕ → ℕ
u16_at s i = from_be_bytes w16 (slice_index s i ∷ slice_index s (i + 1) ∷ [])

abbrev pub u32_at : List ℕ → ℕ → ℕ
u32_at s i = from_be_bytes w32 (slice_index s i ∷ slice_index s (i + 1) ∷ slice_index s (i + 2) ∷ slice_index s (i + 3) ∷ [])

-- the fields at their places
unfoldable pub envelope_at : List ℕ → Envelope
envelope_at s = record {
  major = slice_index s 0;
  minor = slice_index s 1;
  flags = u16_at s 2;
  session = u32_at s 4;
  request = u32_at s 8;
  sequence = u32_at s 12;
  length = u32_at s 16;
}

-- the fields one after the other
unfoldable pub envelope_octets : Envelope → List ℕ
envelope_octets e = e.major ∷ e.minor ∷ (to_be_bytes w16 e.flags ++ to_be_bytes w32 e.session ++ to_be_bytes w32 e.request ++ to_be_bytes w32 e.sequence ++ to_be_bytes w32 e.length)

-- the envelope of a whole message in one frame: version 2.1, and no flag
abbrev pub message_envelope : ℕ → ℕ → ℕ → Envelope
message_envelope session request len = record { major = 2; minor = 1; flags = 0; session = session; request = request; sequence = 0; length = len }

-- each number fits its field
pub record Fits (e : Envelope) : Type 0 where
  pub major : e.major < 2 ^ 8
  pub minor : e.minor < 2 ^ 8
  pub flags : e.flags < 2 ^ 16
  pub session : e.session < 2 ^ 32
  pub request : e.request < 2 ^ 32
  pub sequence : e.sequence < 2 ^ 32
  pub length : e.length < 2 ^ 32

-- a flag is set
abbrev pub has_flag : Envelope → ℕ → Bool
has_flag e flag = not (bit_and e.flags flag == 0)

-- CP, EC and TC
abbrev pub is_compressed : Envelope → Bool
is_compressed e = has_flag e 0x8000

abbrev pub is_encrypted : Envelope → Bool
is_encrypted e = has_flag e 0x4000

abbrev pub is_truncated : Envelope → Bool
is_truncated e = has_flag e 0x2000

-- a piece that would begin at or after the message's end; the product doesn't wrap
abbrev pub is_past_end : Envelope → Bool
is_past_end e = is_truncated e && nat_le e.length (PIECE_LEN * e.sequence)

-- the first fault in the order of the tests; none if the envelope is accepted
unfoldable pub fault_of : Envelope → Option FrameFault
fault_of e =
    if not (e.major == 2) then Some (Version e)
    else if is_compressed e || is_encrypted e || is_past_end e then Some (Flags e)
    else if nat_lt MESSAGE_MAX e.length then Some (TooLong e)
    else None

-- how many octets follow an accepted envelope
unfoldable pub payload_len : Envelope → ℕ
payload_len e = if is_truncated e then min PIECE_LEN (e.length - PIECE_LEN * e.sequence) else e.length
