-- The laws of `src/laws.rt`.
use Rattle.std.specs.Prelude.{◌≡◌, ℕ, ◌<◌, List}
use Rattle.hdl_rows.specs.Table.{Table}
use Rattle.hdl_laws.specs.Worlds.{World}
use Rattle.hdl_laws.specs.Steps.{Turn}
use Rattle.hdl_laws.specs.Runs.{HasRun}
use Rattle.hdl_laws.specs.Laws.{HostsNoRoot, Isolated, Hidden}
use Rattle.hdl_cluster_laws.specs.Together.{AreApart, HasAll, ServerTurn, AreSteps, last_worlds, events_among, outcomes_of, Stage, IsHistory, AreTheirs, all_turns}

-- the turns are a run of the one service, which then has again what each server has
abbrev pub TurnsAreRuns : Type 0
TurnsAreRuns =
    (number : ℕ → ℕ → ℕ) (worlds : ℕ → World) (whole : World) (turns : List ServerTurn) → AreApart number → HasAll number worlds whole → AreSteps worlds turns
    → (new : World) × HasRun whole (events_among number turns) (outcomes_of turns) new × HasAll number (last_worlds worlds turns) new

-- histories over one table are steps, in the order of the tables
abbrev pub HistoriesAreSteps : Type 0
HistoriesAreSteps =
    (servers : ℕ) (worlds : ℕ → World) (stages : List Stage) (end : ℕ → List Turn) (table : Table) → ((server : ℕ) → (worlds server).table ≡ table) → AreTheirs servers stages
    → ((server : ℕ) → server < servers → IsHistory server (worlds server) stages end) → AreSteps worlds (all_turns servers stages end)

-- The turns are a run of one service. In it each publisher is isolated, and no reply tells of a value that may not be read.
pub record IsOneService (number : ℕ → ℕ → ℕ) (whole : World) (turns : List ServerTurn) : Type 0 where
  pub new : World
  pub run : HasRun whole (events_among number turns) (outcomes_of turns) new
  pub isolated : Isolated whole (events_among number turns) (outcomes_of turns)
  pub hidden : Hidden whole (events_among number turns) (outcomes_of turns)

-- what servers did by themselves, over one table with one list of changes, is one service that has the lanes of all
abbrev pub ServersAreOne : Type 0
ServersAreOne =
    (number : ℕ → ℕ → ℕ) (servers : ℕ) (worlds : ℕ → World) (whole : World) (stages : List Stage) (end : ℕ → List Turn)
    → AreApart number → HostsNoRoot whole.site → HasAll number worlds whole → AreTheirs servers stages
    → ((server : ℕ) → server < servers → IsHistory server (worlds server) stages end) → IsOneService number whole (all_turns servers stages end)
