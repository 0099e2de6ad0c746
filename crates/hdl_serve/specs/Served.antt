-- What a serving loop does with its lanes.
use Rattle.std.specs.Prelude.{◌≡◌, ℕ, List, [], ◌∷◌, ◌++◌, ◌==◌, if◌then◌else◌, Option, Some, None, All, Contains, map, filter_map}
use Rattle.std.specs.List.{AllZip}
use Rattle.hdl_lanes.specs.Lane.{put_into, taken_from, SameInlet, SameOutlet}
use Rattle.hdl_events.specs.declared.What.{What}
use Rattle.hdl_events.specs.declared.Event.{Event}
use Rattle.hdl_events.specs.declared.Outcome.{Outcome}
use Rattle.hdl_laws.specs.Worlds.{World}
use Rattle.hdl_laws.specs.Runs.{HasRun}
use Rattle.hdl_laws.specs.Laws.{Isolated, Hidden}
use Rattle.hdl_workers.specs.Sign.{WithEnd}
use Rattle.hdl_workers.specs.declared.item.Item.{Item}
use Rattle.hdl_workers.specs.declared.ends.LaneEnds.{LaneEnds}

-- what happened, if the item isn't End
abbrev pub event_of : Item → Option What
event_of (Item.Event what) = Some what
event_of Item.End = None

-- the events among items, in order
abbrev pub events_in : List Item → List What
events_in items = filter_map event_of items

-- events as items
abbrev pub items_of : List What → List Item
items_of whats = map (λ what. Item.Event what) whats

-- the entries beside the number n, in order
abbrev pub beside : {X : Type 0} → ℕ → List ℕ → List X → List X
beside n [] xs = []
beside n (m ∷ ms) [] = []
beside n (m ∷ ms) (x ∷ xs) = if m == n then x ∷ beside n ms xs else beside n ms xs

abbrev pub lanes_of : List Event → List ℕ
lanes_of es = map (λ e. e.lane) es

abbrev pub whats_of : List Event → List What
whats_of es = map (λ e. e.what) es

-- what happened on the lane n, in order
abbrev pub events_on : ℕ → List Event → List What
events_on n es = beside n (lanes_of es) (whats_of es)

-- what came of the events of the lane n, in order
abbrev pub outcomes_on : ℕ → List Event → List Outcome → List Outcome
outcomes_on n es os = beside n (lanes_of es) os

-- the same lane's ends, before and after: what was taken is, End aside, its events; behind an End nothing was taken; what was put is
-- its events' outcomes
pub record LaneServed (events : List Event) (outcomes : List Outcome) (a b : LaneEnds) : Type 0 where
  pub lane : b.lane ≡ a.lane
  pub outlet : SameOutlet a.items b.items
  pub inlet : SameInlet a.outcomes b.outcomes
  pub taken : events_in (taken_from b.items) ≡ events_in (taken_from a.items) ++ events_on a.lane events
  pub end_last : WithEnd (taken_from a.items ++ items_of (events_on a.lane events)) (taken_from b.items)
  pub put : put_into b.outcomes ≡ put_into a.outcomes ++ outcomes_on a.lane events outcomes

-- the event bears the number of one of the lanes
abbrev pub IsOnOne : List LaneEnds → Event → Type 0
IsOnOne lanes e = Contains (map (λ a. a.lane) lanes) e.lane

-- there are one list of events and one of outcomes that are a run from one world to the other, isolate each publisher and hide what
-- may not be read; each lane gave its events of that list, and was given their outcomes; and no event of it is of another lane
pub record IsServed (w : World) (before : List LaneEnds) (new : World) (after : List LaneEnds) : Type 0 where
  pub events : List Event
  pub outcomes : List Outcome
  pub run : HasRun w events outcomes new
  pub isolated : Isolated w events outcomes
  pub hidden : Hidden w events outcomes
  pub lanes : AllZip (LaneServed events outcomes) before after
  pub of : All (IsOnOne before) events
