-- What stands next in a stream, as a worker finds it.
use Rattle.std.specs.Prelude.{◌≡◌, List, [], ◌∷◌, ◌++◌, None}
use Rattle.hdl_frame.specs.Frames.{IsFrame, BeginsWithFrame, fault_at}
use Rattle.hdl_frame.specs.Held.{Held}
use Rattle.hdl_workers.specs.declared.stream.Found.{Found}
use Rattle.hdl_workers.specs.declared.stream.Found.TheVariants.{Whole, Fault, Nothing}
use Rattle.hdl_workers.specs.Sign.{Sign, faulty}
use Rattle.hdl_workers.specs.Talk.{fault_signs}

-- what was found, where it is a fault
abbrev pub fault_found : Found → List Sign
fault_found (Whole bytes) = []
fault_found (Fault session request) = faulty session request ∷ []
fault_found Nothing = []

-- a frame was taken off the front of the rest; or a fault stands there; or neither
abbrev pub Finds : Held → Found → Held → Type 0
Finds old (Whole bytes) new = IsFrame bytes × (old.rest ≡ bytes ++ new.rest) × (new.fault ≡ None)
Finds old (Fault session request) new = (BeginsWithFrame old.rest → ⊥) × (fault_signs (fault_at old.rest) ≡ faulty session request ∷ [])
Finds old Nothing new = (BeginsWithFrame old.rest → ⊥) × (fault_at old.rest ≡ None) × (new ≡ old)
