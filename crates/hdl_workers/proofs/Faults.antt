-- Which faults stand at the front of a stream.
use Rattle.std.proofs.Common.{arith, ◌≡◌, ℕ, List, Some, ap, ◌∙◌, sym}
use Rattle.hdl_frame.specs.declared.envelope.Envelope.{Envelope}
use Rattle.hdl_frame.specs.declared.envelope.FrameFault.{FrameFault}
use Rattle.hdl_frame.specs.declared.envelope.FrameFault.TheVariants.{Version, Flags, TooLong, Memory}
use Rattle.hdl_frame.specs.Envelope.{envelope_at, fault_of}
use Rattle.hdl_frame.specs.Frames.{fault_at}
use Rattle.hdl_frame.proofs.FrameLemmas.{none_faulty}
use Rattle.hdl_frame.specs.Held.{Held}
use Rattle.hdl_workers.specs.declared.stream.Found.{Found}
use Rattle.hdl_workers.specs.declared.stream.Found.TheVariants.{Whole, Fault, Nothing}
use Rattle.hdl_workers.specs.Found.{Finds, fault_found}
use Rattle.hdl_workers.specs.Talk.{fault_sign, fault_signs}

never_of : (e : Envelope) → fault_of e ≡ Some Memory → ⊥
unfolding fault_of
never_of e is = grind arith

pub never_memory : (s : List ℕ) → fault_at s ≡ Some Memory → ⊥
unfolding fault_at
never_memory s is = grind (arith, never_of (envelope_at s))

-- the fault that was found is the one that stands there
pub finds_fault : (old new : Held) (fault : FrameFault) (found : Found) → fault_at old.rest ≡ Some fault → fault_found found ≡ fault_sign fault → Finds old found new
finds_fault old new fault (Fault a b) e k = (none_faulty old.rest fault e, ap fault_signs e ∙ sym k)
finds_fault old new (Version v) (Whole bytes) e k = absurd cc
finds_fault old new (Flags v) (Whole bytes) e k = absurd cc
finds_fault old new (TooLong v) (Whole bytes) e k = absurd cc
finds_fault old new Memory (Whole bytes) e k = absurd (never_memory old.rest e)
finds_fault old new (Version v) Nothing e k = absurd cc
finds_fault old new (Flags v) Nothing e k = absurd cc
finds_fault old new (TooLong v) Nothing e k = absurd cc
finds_fault old new Memory Nothing e k = absurd (never_memory old.rest e)
