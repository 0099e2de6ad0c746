-- The lanes that wait for their writes.
use Rattle.std.specs.Prelude.{ℕ, Bool, true, false, not, ◌==◌, ◌&&◌, ◌||◌, List, [], ◌∷◌, ◌++◌, if◌then◌else◌, Option, Some, None, slice_get}
use Rattle.std.specs.List.{list_any, filter}

-- the lanes that wait for their writes, in the order in which they came, and the lane to which the table owes a write
pub record Waiting : Type 0 where
  pub lanes : List ℕ
  pub owner : Option ℕ

-- the lane waits
abbrev pub is_among : List ℕ → ℕ → Bool
is_among lanes lane = list_any (λ other. other == lane) lanes

-- the lanes with this one at the end, unless it waits already
abbrev pub with_lane : List ℕ → ℕ → List ℕ
with_lane lanes lane = if is_among lanes lane then lanes else lanes ++ lane ∷ []

-- the other lanes
abbrev pub without_lane : List ℕ → ℕ → List ℕ
without_lane lanes lane = filter (λ other. not (other == lane)) lanes

-- the lane that may write next: the one to which a write is owed, else the first one
abbrev turn_by : Option ℕ → Option ℕ → Option ℕ
turn_by (Some owner) first = Some owner
turn_by None first = first

abbrev pub turn_of : Waiting → Option ℕ
turn_of w = turn_by w.owner (slice_get w.lanes 0)

abbrev is_it : Option ℕ → ℕ → Bool
is_it None lane = true
is_it (Some other) lane = other == lane

-- the lane may write: it is the next, or there is none
abbrev pub is_turn : Waiting → ℕ → Bool
is_turn w lane = is_it (turn_of w) lane

-- the lane's next event is served now: the lane doesn't wait, or no write is being made and it is the lane's turn
abbrev pub is_asked : Waiting → ℕ → Bool → Bool
is_asked w lane is_under_way = not (is_among w.lanes lane) || (not is_under_way && is_turn w lane)

-- to which lane a write is owed after a step of this lane that was answered busy: while the table owes one, the lane to which it was owed before, else this lane
abbrev pub owner_after : Option ℕ → ℕ → Bool → Option ℕ
owner_after owner lane false = None
owner_after None lane true = Some lane
owner_after (Some owner) lane true = Some owner

-- the lane's event has its outcome: no write is owed to it
abbrev pub owner_without : Option ℕ → ℕ → Option ℕ
owner_without None lane = None
owner_without (Some owner) lane = if owner == lane then None else Some owner
