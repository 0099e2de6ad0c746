-- Several servers over one table, and the one service that has all of their lanes.
use Rattle.std.specs.Prelude.{◌≡◌, ℕ, zero, suc, ◌<◌, List, [], ◌∷◌, ◌++◌, ◌==◌, if◌then◌else◌, map, ⊤}
use Rattle.hdl_events.specs.declared.Event.{Event}
use Rattle.hdl_events.specs.declared.Outcome.{Outcome}
use Rattle.hdl_laws.specs.Worlds.{World, with_table, owner, lane_profile, lane_of}
use Rattle.hdl_laws.specs.Steps.{Turn, IsStep}
use Rattle.hdl_laws.specs.Runs.{IsRun, last, outcomes}

-- ---- the one service

-- a number for each lane of each server, and no number for two
abbrev pub AreApart : (ℕ → ℕ → ℕ) → Type 0
AreApart number = (server other lane lane' : ℕ) → number server lane ≡ number other lane' → (server ≡ other) × (lane ≡ lane')

-- the whole has what this server has: its lanes with their owners, under their numbers; the prefixes; how each publisher's lanes speak; and the table
pub record HasServer (number : ℕ → ℕ → ℕ) (server : ℕ) (part whole : World) : Type 0 where
  pub owners : (lane : ℕ) → owner whole.site (number server lane) ≡ owner part.site lane
  pub hostings : whole.site.hostings ≡ part.site.hostings
  pub spoken : (publisher : ℕ) → lane_profile whole.site publisher ≡ lane_profile part.site publisher
  pub table : whole.table ≡ part.table
  pub lanes : (lane : ℕ) → lane_of whole (number server lane) ≡ lane_of part lane

-- it has what each server has
abbrev pub HasAll : (ℕ → ℕ → ℕ) → (ℕ → World) → World → Type 0
HasAll number worlds whole = (server : ℕ) → HasServer number server (worlds server) whole

-- ---- turns of several servers

-- a turn, and the server that took it
pub record ServerTurn : Type 0 where
  pub server : ℕ
  pub step : Turn

abbrev pub at_server : ℕ → Turn → ServerTurn
at_server server step = record { server = server; step = step }

-- a server's world after a turn: the world that its own turn leaves, or its world with the table that the turn of another leaves
abbrev pub world_after : ServerTurn → ℕ → World → World
world_after taken server world = if server == taken.server then taken.step.after else with_table world taken.step.after.table

-- all servers' worlds after a turn
abbrev pub worlds_after : (ℕ → World) → ServerTurn → ℕ → World
worlds_after worlds taken server = world_after taken server (worlds server)

abbrev pub last_worlds : (ℕ → World) → List ServerTurn → ℕ → World
last_worlds worlds [] = worlds
last_worlds worlds (taken ∷ turns) = last_worlds (worlds_after worlds taken) turns

-- each turn is a step of its server's world, in which all turns before it are taken over
abbrev pub AreSteps : (ℕ → World) → List ServerTurn → Type 0
AreSteps worlds [] = ⊤
AreSteps worlds (taken ∷ turns) = IsStep (worlds taken.server) taken.step × AreSteps (worlds_after worlds taken) turns

-- the event of a turn, on the number of its lane
abbrev pub event_among : (ℕ → ℕ → ℕ) → ServerTurn → Event
event_among number taken = record { lane = number taken.server taken.step.event.lane; what = taken.step.event.what }

abbrev pub events_among : (ℕ → ℕ → ℕ) → List ServerTurn → List Event
events_among number turns = map (event_among number) turns

abbrev pub outcomes_of : List ServerTurn → List Outcome
outcomes_of turns = outcomes (map (λ taken. taken.step) turns)

-- ---- what each server did by itself

-- each turn leaves the table as it was
abbrev pub KeepTable : World → List Turn → Type 0
KeepTable world [] = ⊤
KeepTable world (step ∷ turns) = (step.after.table ≡ world.table) × KeepTable step.after turns

-- What servers did on one table: the turns of each, which leave the table as it was, and then the change, which one of them made.
pub record Stage : Type 0 where
  pub turns : ℕ → List Turn
  pub change : ServerTurn

-- What a server did by itself, whenever it did it: on each table a run that keeps the table, then the change if it is its own, else it takes over the table. In the end, a run
-- on the last table.
abbrev pub IsHistory : ℕ → World → List Stage → (ℕ → List Turn) → Type 0
IsHistory server world [] end = IsRun world (end server) × KeepTable world (end server)
IsHistory server world (stage ∷ stages) end =
    IsRun world (stage.turns server) × KeepTable world (stage.turns server)
    × (stage.change.server ≡ server → IsStep (last world (stage.turns server)) stage.change.step)
    × IsHistory server (world_after stage.change server (last world (stage.turns server))) stages end

-- the change of each stage is that of one of these servers
abbrev pub AreTheirs : ℕ → List Stage → Type 0
AreTheirs servers [] = ⊤
AreTheirs servers (stage ∷ stages) = (stage.change.server < servers) × AreTheirs servers stages

-- the turns of the first servers, one server after the other
abbrev pub turns_of_first : ℕ → (ℕ → List Turn) → List ServerTurn
turns_of_first zero turns = []
turns_of_first (suc server) turns = turns_of_first server turns ++ map (at_server server) (turns server)

-- all turns, in the order of the tables on which they were taken
abbrev pub all_turns : ℕ → List Stage → (ℕ → List Turn) → List ServerTurn
all_turns servers [] end = turns_of_first servers end
all_turns servers (stage ∷ stages) end = turns_of_first servers stage.turns ++ stage.change ∷ all_turns servers stages end
