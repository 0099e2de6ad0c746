-- What a serving loop does beside other servers: turns of its own, and changes of others that it lets in between them.
use Rattle.std.specs.Prelude.{◌≡◌, ◌≢◌, ℕ, List, [], ◌∷◌, ◌++◌, Option, Some, None, All}
use Rattle.std.specs.List.{AllZip}
use Rattle.hdl_rows.specs.Table.{Table}
use Rattle.hdl_ops.specs.declared.change.Change.{Change}
use Rattle.hdl_ops.specs.Tables.{apply, CanApply}
use Rattle.hdl_laws.specs.Worlds.{World, with_table}
use Rattle.hdl_laws.specs.Steps.{Turn, moment_of}
use Rattle.hdl_laws.specs.Runs.{events, outcomes}
use Rattle.hdl_cluster_laws.specs.Together.{ServerTurn, at_server}
use Rattle.hdl_cluster_laws.specs.Shared.{Part, Took, TookOver, AreParts, AreOfOthers, IsNextTurn, after_parts, turns_in}
use Rattle.hdl_workers.specs.declared.ends.LaneEnds.{LaneEnds}
use Rattle.hdl_serve.specs.declared.news.StampedChange.{StampedChange}
use Rattle.hdl_serve.specs.Served.{LaneServed, IsOnOne}

-- the parts take over these changes and no others, each once and in order: the table before it can have the change, and the one that is taken over is that table with it
abbrev pub TakeOver : World → List Part → List StampedChange → Type 0
TakeOver world [] changes = changes ≡ []
TakeOver world (Took step ∷ parts) changes = TakeOver step.after parts changes
TakeOver world (TookOver table ∷ parts) [] = ⊥
TakeOver world (TookOver table ∷ parts) (next ∷ changes) = CanApply world.table next.change × (table ≡ apply world.table next.moment next.change) × TakeOver (with_table world table) parts changes

-- There is one list of parts from one world to the other: turns, and the tables with the changes that the news gave meanwhile. Each lane gave its events of the turns, and was
-- given their outcomes; and no turn is of another lane.
pub record IsShared (w : World) (before : List LaneEnds) (known : List StampedChange) (new : World) (after : List LaneEnds) (later : List StampedChange) : Type 0 where
  pub parts : List Part
  pub are : AreParts w parts
  pub last : after_parts w parts ≡ new
  pub changes : List StampedChange
  pub taken_over : TakeOver w parts changes
  pub news : later ≡ known ++ changes
  pub lanes : AllZip (LaneServed (events (turns_in parts)) (outcomes (turns_in parts))) before after
  pub of : All (IsOnOne before) (events (turns_in parts))

-- ---- one list of changes

-- the turn has a change, and these make the same of each table: that change at the moment of the turn's event, and this one at its own moment
abbrev pub IsAsInTurn : Turn → StampedChange → Type 0
IsAsInTurn step given = (change : Change) × (step.change ≡ Some change) × ((table : Table) → apply table (moment_of step.event.what) change ≡ apply table given.moment given.change)

-- A server's own changes and those that its news gave are the list, in its order: each of its turns with a change is the next one, and each change that it took over is as in the
-- next one, a turn of another server. What is left of the list is of others.
abbrev pub FollowsChanges : ℕ → List Part → List StampedChange → List ServerTurn → Type 0
FollowsChanges server [] news changes = AreOfOthers server changes
FollowsChanges server (Took step ∷ parts) news changes = IsNextTurn (at_server server step) step.change (FollowsChanges server parts news) changes
FollowsChanges server (TookOver table ∷ parts) [] changes = ⊥
FollowsChanges server (TookOver table ∷ parts) (change ∷ news) [] = ⊥
FollowsChanges server (TookOver table ∷ parts) (change ∷ news) (next ∷ changes) = (next.server ≢ server) × IsAsInTurn next.step change × FollowsChanges server parts news changes

-- ---- a server that starts later

-- It began with the table that changes of others had made of the first one: these it took over, and then it served. Both together are these parts and these changes of others.
pub record ServedBehind (w : World) (before after : List LaneEnds) (parts : List Part) (taken : List StampedChange) : Type 0 where
  pub missed : List Part
  pub given : List StampedChange
  pub no_turns : turns_in missed ≡ []
  pub took_over : TakeOver w missed given
  pub known : List StampedChange
  pub new : World
  pub later : List StampedChange
  pub served : IsShared (after_parts w missed) before known new after later
  pub all_parts : parts ≡ missed ++ served.parts
  pub all_taken : taken ≡ given ++ served.changes

-- ---- a change that doesn't fit

-- a change is seen, and the table can't have it
abbrev pub IsUnfit : Option StampedChange → Table → Type 0
IsUnfit None table = ⊥
IsUnfit (Some next) table = ¬ CanApply table next.change
