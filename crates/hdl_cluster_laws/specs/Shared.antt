-- What servers with one list of changes did: turns of their own, and tables of others that they took over.
use Rattle.std.specs.Prelude.{◌≡◌, ◌≢◌, ℕ, ◌<◌, List, [], ◌∷◌, ◌==◌, Option, Some, None, map, filter, ⊤}
use Rattle.hdl_rows.specs.Table.{Table}
use Rattle.hdl_ops.specs.declared.change.Change.{Change}
use Rattle.hdl_laws.specs.Worlds.{World, with_table}
use Rattle.hdl_laws.specs.Steps.{Turn, IsStep}
use Rattle.hdl_cluster_laws.specs.Together.{ServerTurn, at_server, Stage}

-- what a server did at a time: a turn, or it took over the table that another server's turn left
pub data Part : Type 0 where
  Took : Turn → Part
  TookOver : Table → Part

-- each turn is a step, in the world with the table that was taken over last, or that the last turn left
abbrev pub AreParts : World → List Part → Type 0
AreParts world [] = ⊤
AreParts world (Took step ∷ parts) = IsStep world step × AreParts step.after parts
AreParts world (TookOver table ∷ parts) = AreParts (with_table world table) parts

-- the world after the parts
abbrev pub after_parts : World → List Part → World
after_parts world [] = world
after_parts world (Took step ∷ parts) = after_parts step.after parts
after_parts world (TookOver table ∷ parts) = after_parts (with_table world table) parts

-- ---- the list of changes

-- each change is a turn of another server
abbrev pub AreOfOthers : ℕ → List ServerTurn → Type 0
AreOfOthers server [] = ⊤
AreOfOthers server (next ∷ changes) = (next.server ≢ server) × AreOfOthers server changes

-- a turn with a change is the next one of the list, and what follows goes on after it
abbrev pub IsNextTurn : ServerTurn → Option Change → (List ServerTurn → Type 0) → List ServerTurn → Type 0
IsNextTurn taken None GoesOn changes = GoesOn changes
IsNextTurn taken (Some change) GoesOn [] = ⊥
IsNextTurn taken (Some change) GoesOn (next ∷ changes) = (next ≡ taken) × GoesOn changes

-- The parts of a server follow the list: each of its turns with a change is the next one, and each table that it took over is the one that the next one left, of another server.
-- What is left of the list is of others.
abbrev pub FollowsList : ℕ → List Part → List ServerTurn → Type 0
FollowsList server [] changes = AreOfOthers server changes
FollowsList server (Took step ∷ parts) changes = IsNextTurn (at_server server step) step.change (FollowsList server parts) changes
FollowsList server (TookOver table ∷ parts) [] = ⊥
FollowsList server (TookOver table ∷ parts) (next ∷ changes) = (next.server ≢ server) × (table ≡ next.step.after.table) × FollowsList server parts changes

-- each change is that of one of these servers
abbrev pub AreAmong : ℕ → List ServerTurn → Type 0
AreAmong servers [] = ⊤
AreAmong servers (next ∷ changes) = (next.server < servers) × AreAmong servers changes

-- ---- the parts, cut at the changes

-- the turns before the first change, by whether the first turn has one
abbrev pub before_by : Option Change → Turn → List Turn → List Turn
before_by None step turns = step ∷ turns
before_by (Some change) step turns = []

abbrev pub before_change : List Part → List Turn
before_change [] = []
before_change (Took step ∷ parts) = before_by step.change step (before_change parts)
before_change (TookOver table ∷ parts) = []

-- the parts after the first change
abbrev pub after_by : Option Change → List Part → List Part → List Part
after_by None parts after = after
after_by (Some change) parts after = parts

abbrev pub after_change : List Part → List Part
after_change [] = []
after_change (Took step ∷ parts) = after_by step.change parts (after_change parts)
after_change (TookOver table ∷ parts) = parts

-- the stages: for each change, the turns of each server on the table before it
abbrev pub stages_of : (ℕ → List Part) → List ServerTurn → List Stage
stages_of parts [] = []
stages_of parts (next ∷ changes) = record { turns = λ server. before_change (parts server); change = next } ∷ stages_of (λ server. after_change (parts server)) changes

-- the turns of each server on the last table
abbrev pub turns_at_the_end : (ℕ → List Part) → List ServerTurn → ℕ → List Turn
turns_at_the_end parts [] server = before_change (parts server)
turns_at_the_end parts (next ∷ changes) server = turns_at_the_end (λ other. after_change (parts other)) changes server

-- ---- whose turns

-- the turns of a server
abbrev pub turns_in : List Part → List Turn
turns_in [] = []
turns_in (Took step ∷ parts) = step ∷ turns_in parts
turns_in (TookOver table ∷ parts) = turns_in parts

-- the turns of one server among those of all
abbrev pub turns_of_server : ℕ → List ServerTurn → List Turn
turns_of_server server turns = map (λ taken. taken.step) (filter (λ taken. taken.server == server) turns)
