-- What events read of the table.
use Rattle.std.specs.Prelude.{◌≡◌, ◌≤◌, ◌+◌, ◌*◌, ℕ, List, [], ◌∷◌, length, None, ⊤}
use Rattle.hdl_slots.specs.Lanes.{challenge_of}
use Rattle.hdl_reach.specs.Cost.{Most, HasAtMost}
use Rattle.hdl_ops.specs.Cost.{proof_cost}
use Rattle.hdl_events.specs.declared.Event.{Event}
use Rattle.hdl_events.specs.declared.What.{What}
use Rattle.hdl_events.specs.declared.Outcome.{Outcome}
use Rattle.hdl_laws.specs.Lanes.{LaneState}
use Rattle.hdl_laws.specs.Worlds.{World}
use Rattle.hdl_laws.specs.Steps.{Turn}
use Rattle.hdl_laws.specs.Runs.{IsRun, events, outcomes, last}

-- no challenge is pending on the lane that was sent to this peer
abbrev pub IsUnchallenged : LaneState → ℕ → Type 0
IsUnchallenged lane peer = (number : ℕ) → challenge_of lane.challenges.challenges peer number ≡ None

-- the event isn't a frame, or it comes from a peer to whom no challenge is pending
abbrev pub IsStranger : LaneState → What → Type 0
IsStranger lane (What.Frame peer moment nonce bytes) = IsUnchallenged lane peer
IsStranger lane _ = ⊤

-- the table has no more than this before each of the turns
abbrev pub HaveAtMost : Most → World → List Turn → Type 0
HaveAtMost most world [] = ⊤
HaveAtMost most world (step ∷ turns) = HasAtMost world.table most × HaveAtMost most step.after turns

-- the events have these outcomes and lead from one world to the other, and each read no more than a decision behind a proof
abbrev pub HasRunReads : World → List Event → List Outcome → World → ℕ → ℕ → Type 0
HasRunReads world es os world' old new =
    (turns : List Turn) × IsRun world turns × (events turns ≡ es) × (outcomes turns ≡ os) × (last world turns ≡ world')
    × ((most : Most) → HaveAtMost most world turns → new ≤ old + length turns * proof_cost most)
