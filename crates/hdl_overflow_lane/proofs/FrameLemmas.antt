-- A frame fits into the buffer that it is handed out in.
use Rattle.std.proofs.Common.{◌≡◌, ℕ, ◌≤◌, List, length, take, Option, Some, None, Result, Ok, arith}
use Rattle.std.proofs.lemmas.List.{length-take}
use Rattle.std.proofs.lemmas.Bool.Decides.{nat_tests}
use Rattle.hdl_frame.specs.declared.envelope.Envelope.{Envelope}
use Rattle.hdl_frame.specs.declared.envelope.FrameFault.{FrameFault}
use Rattle.hdl_frame.specs.declared.frame.Frame.{Frame}
use Rattle.hdl_frame.specs.Envelope.{envelope_at, fault_of, payload_len}
use Rattle.hdl_frame.specs.Frames.{IsFrame}
use Rattle.hdl_frame.specs.Held.{Held}
use Rattle.hdl_frame.specs.Cutting.{TakesFrame}

payload_short : (e : Envelope) → fault_of e ≡ None → payload_len e ≤ 65536
unfolding fault_of payload_len
payload_short e none = grind (arith, nat_tests)

pub frame_short : (octets : List ℕ) → IsFrame octets → length octets ≤ 65556
frame_short octets frame = omega (arith, frame.payload, payload_short (envelope_at octets) frame.accepted)

pub taken_short : (old new : Held) (r : Result (Option Frame) FrameFault) (o : Option Frame) (f : Frame) → TakesFrame old r new → r ≡ Ok o → o ≡ Some f → length f.bytes.now ≤ 65556
taken_short old new r o f takes is some =
    let t = rw is at takes in
    let u = rw some at t in
    frame_short f.bytes.now u.1.frame

-- so much of the buffer, which is longer, has this length
pub so_long : (n room : ℕ) (xs : List ℕ) → n ≤ room → room ≤ length xs → length (take n xs) ≡ n
so_long n room xs short fits = omega (arith, length-take n xs)
