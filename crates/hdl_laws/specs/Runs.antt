-- Whole runs: one outcome for each event.
use Rattle.std.specs.Prelude.{◌≡◌, List, [], ◌∷◌, Bool, true, false, map, ⊤}
use Rattle.hdl_events.specs.declared.Event.{Event}
use Rattle.hdl_events.specs.declared.Outcome.{Outcome}
use Rattle.hdl_events.specs.declared.Outcome.TheVariants.{Busy}
use Rattle.hdl_laws.specs.Worlds.{World}
use Rattle.hdl_laws.specs.Steps.{Turn, IsStep, IsAnswer}

-- each turn is a step from the world that the one before it left
abbrev pub IsRun : World → List Turn → Type 0
IsRun world [] = ⊤
IsRun world (step ∷ turns) = IsStep world step × IsRun step.after turns

-- the world after the turns
abbrev pub last : World → List Turn → World
last world [] = world
last world (step ∷ turns) = last step.after turns

abbrev pub events : List Turn → List Event
events turns = map (λ step. step.event) turns

abbrev pub outcomes : List Turn → List Outcome
outcomes turns = map (λ step. step.outcome) turns

-- the events can have these outcomes, and lead from one world to the other
abbrev pub HasRun : World → List Event → List Outcome → World → Type 0
HasRun world es os new = (turns : List Turn) × IsRun world turns × (events turns ≡ es) × (outcomes turns ≡ os) × (last world turns ≡ new)

-- the event has this outcome, and leads from one world to the other
abbrev pub HasStep : World → Event → Outcome → World → Type 0
HasStep world event outcome new = (step : Turn) × IsStep world step × (step.event ≡ event) × (step.outcome ≡ outcome) × (step.after ≡ new)

-- ---- runs without Busy

abbrev pub is_busy : Outcome → Bool
is_busy (Busy octets) = true
is_busy _ = false

-- each turn is the answer in the world that the one before it left
abbrev pub IsRunWithoutBusy : World → List Turn → Type 0
IsRunWithoutBusy world [] = ⊤
IsRunWithoutBusy world (step ∷ turns) = IsAnswer world step × IsRunWithoutBusy step.after turns

-- the events have these outcomes where none is answered busy, and lead from one world to the other
abbrev pub HasRunWithoutBusy : World → List Event → List Outcome → World → Type 0
HasRunWithoutBusy world es os new = (turns : List Turn) × IsRunWithoutBusy world turns × (events turns ≡ es) × (outcomes turns ≡ os) × (last world turns ≡ new)
