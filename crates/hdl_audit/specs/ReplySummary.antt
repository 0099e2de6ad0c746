-- What the front of a reply says (docs/PROTOCOL.md, "Envelope" and "Message").
use Rattle.std.specs.Prelude.{ℕ, Bool, not, ◌==◌, ◌&&◌, nat_le, if◌then◌else◌, List, length, Option, Some, None}
use Rattle.hdl_frame.specs.Envelope.{envelope_at, u32_at}
use Rattle.hdl_msg.specs.declared.codes.OpCode.TheVariants.{CreateHandle, ModifyValue}
use Rattle.hdl_msg.specs.declared.codes.ResponseCode.TheVariants.{AuthenticationNeeded, Success}
use Rattle.hdl_msg.specs.Codes.{op_number, response_number}
use Rattle.hdl_audit.specs.declared.answer.ReplySummary.{ReplySummary}

-- operation and code of a reply, by a frame that has the front of its message
abbrev pub answer_of : List ℕ → Option ReplySummary
answer_of frame =
    if nat_le 28 (length frame) && (envelope_at frame).sequence == 0
    then Some (record { session = (envelope_at frame).session; request = (envelope_at frame).request; operation = u32_at frame 20; code = u32_at frame 24 })
    else None

-- the operations that change a handle: create, delete, add, remove, modify
abbrev pub changes : ℕ → Bool
changes operation = nat_le (op_number CreateHandle) operation && nat_le operation (op_number ModifyValue)

-- the reply is a challenge
abbrev pub is_challenge : ReplySummary → Bool
is_challenge answer = answer.code == response_number AuthenticationNeeded

-- the reply ends a change: it is accepted or refused, and not challenged
abbrev pub ends_change : ReplySummary → Bool
ends_change answer = changes answer.operation && not (is_challenge answer)

-- the reply says that a change was accepted
abbrev pub accepts_change : ReplySummary → Bool
accepts_change answer = changes answer.operation && answer.code == response_number Success
