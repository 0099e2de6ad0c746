-- The laws of what servers with one list of changes did.
use Rattle.std.specs.Prelude.{◌≡◌, ℕ, ◌<◌, List}
use Rattle.hdl_laws.specs.Worlds.{World, lane_profile}
use Rattle.hdl_laws.specs.Laws.{HostsNoRoot}
use Rattle.hdl_cluster_laws.specs.Together.{AreApart, HasAll, ServerTurn, IsHistory, all_turns}
use Rattle.hdl_cluster_laws.specs.Laws.{IsOneService}
use Rattle.hdl_cluster_laws.specs.Shared.{Part, AreParts, FollowsList, AreAmong, stages_of, turns_at_the_end, turns_in, turns_of_server}

-- what each server did, cut at the changes, is its history
abbrev pub SharedAreHistories : Type 0
SharedAreHistories =
    (servers : ℕ) (worlds : ℕ → World) (parts : ℕ → List Part) (changes : List ServerTurn)
    → ((server : ℕ) → server < servers → AreParts (worlds server) (parts server)) → ((server : ℕ) → server < servers → FollowsList server (parts server) changes)
    → (server : ℕ) → server < servers → IsHistory server (worlds server) (stages_of parts changes) (turns_at_the_end parts changes)

-- the turns of all, in the order of the list of changes
abbrev pub shared_turns : ℕ → (ℕ → List Part) → List ServerTurn → List ServerTurn
shared_turns servers parts changes = all_turns servers (stages_of parts changes) (turns_at_the_end parts changes)

-- among these turns each server's are those that it took, in its order
abbrev pub KeepsTurns : Type 0
KeepsTurns =
    (servers : ℕ) (parts : ℕ → List Part) (changes : List ServerTurn) (server : ℕ) → server < servers → FollowsList server (parts server) changes
    → turns_of_server server (shared_turns servers parts changes) ≡ turns_in (parts server)

-- servers that follow one list of changes, from one table, are one service that has the lanes of all
abbrev pub SharingIsOne : Type 0
SharingIsOne =
    (number : ℕ → ℕ → ℕ) (servers : ℕ) (worlds : ℕ → World) (whole : World) (parts : ℕ → List Part) (changes : List ServerTurn)
    → AreApart number → HostsNoRoot whole.site → HasAll number worlds whole → AreAmong servers changes
    → ((server : ℕ) → server < servers → AreParts (worlds server) (parts server)) → ((server : ℕ) → server < servers → FollowsList server (parts server) changes)
    → IsOneService number whole (shared_turns servers parts changes)

-- ---- the premises can be met

-- there are numbers for the lanes of all servers
abbrev pub HasNumbering : Type 0
HasNumbering = (number : ℕ → ℕ → ℕ) × AreApart number

-- two servers host the same prefixes, their publishers' lanes speak alike, and they have one table
pub record AreAlike (one other : World) : Type 0 where
  pub hostings : one.site.hostings ≡ other.site.hostings
  pub spoken : (publisher : ℕ) → lane_profile one.site publisher ≡ lane_profile other.site publisher
  pub table : one.table ≡ other.table

-- of servers that are alike there is one service that has the lanes of all; the servers beyond them have no lanes
abbrev pub HasWhole : Type 0
HasWhole =
    (number : ℕ → ℕ → ℕ) (servers : ℕ) (worlds : ℕ → World) (like : World) → AreApart number → ((server : ℕ) → server < servers → AreAlike (worlds server) like)
    → (all : ℕ → World) × (whole : World) × ((server : ℕ) → server < servers → all server ≡ worlds server) × AreAlike whole like × HasAll number all whole
