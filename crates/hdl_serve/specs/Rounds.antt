-- What one round does, lane by lane, by the lanes' places.
use Rattle.std.specs.Prelude.{◌≡◌, ◌<◌, ⊤, ℕ, Bool, true, false, List, [], ◌∷◌, ◌++◌, All, length, get_or, map}
use Rattle.std.specs.List.{AllByRecursion}
use Rattle.hdl_lanes.specs.Lane.{put_into, taken_from, IsFrontOf, SameInlet, SameOutlet}
use Rattle.hdl_lanes.specs.declared.outlet.Outlet.{Outlet}
use Rattle.hdl_events.specs.declared.What.{What}
use Rattle.hdl_events.specs.declared.Event.{Event}
use Rattle.hdl_events.specs.declared.Outcome.{Outcome}
use Rattle.hdl_laws.specs.Worlds.{World}
use Rattle.hdl_laws.specs.Runs as runs
use Rattle.hdl_laws.specs.Runs.{HasRun, is_busy}
use Rattle.hdl_cluster_laws.specs.Shared.{Part, AreParts, after_parts, turns_in}
use Rattle.hdl_workers.specs.declared.item.Item.{Item}
use Rattle.hdl_workers.specs.declared.ends.LaneEnds.{LaneEnds}
use Rattle.hdl_workers.specs.Ends.{AreDistinct}
use Rattle.hdl_serve.specs.declared.rounds.Front.{Front}
use Rattle.hdl_serve.specs.declared.news.StampedChange.{StampedChange}
use Rattle.hdl_serve.specs.Shared.{TakeOver}
use Rattle.hdl_serve.specs.Served.{events_in, items_of, events_on, outcomes_on, IsOnOne}

-- the items are these, and End behind them where the lane has ended
abbrev pub AreWithEnd : Bool → List Item → List Item → Type 0
AreWithEnd false events items = items ≡ events
AreWithEnd true events items = items ≡ events ++ Item.End ∷ []

-- the lane gave these events and was given these outcomes; whether it had ended before, and has now
pub record Passes (was now : Bool) (whats : List What) (outcomes : List Outcome) (a b : LaneEnds) : Type 0 where
  pub lane : b.lane ≡ a.lane
  pub outlet : SameOutlet a.items b.items
  pub inlet : SameInlet a.outcomes b.outcomes
  pub taken : events_in (taken_from b.items) ≡ events_in (taken_from a.items) ++ whats
  pub with_end : (events : List Item) → AreWithEnd was events (taken_from a.items) → AreWithEnd now (events ++ items_of whats) (taken_from b.items)
  pub put : put_into b.outcomes ≡ put_into a.outcomes ++ outcomes

-- the lane was given this outcome, and nothing was taken from it
pub record Answers (outcome : Outcome) (a b : LaneEnds) : Type 0 where
  pub lane : b.lane ≡ a.lane
  pub outlet : SameOutlet a.items b.items
  pub inlet : SameInlet a.outcomes b.outcomes
  pub taken : taken_from b.items ≡ taken_from a.items
  pub put : put_into b.outcomes ≡ put_into a.outcomes ++ outcome ∷ []

-- no outcome that was put is Busy
abbrev pub PutsNoBusy : LaneEnds → LaneEnds → Type 0
PutsNoBusy a b = (outcomes : List Outcome) × (put_into b.outcomes ≡ put_into a.outcomes ++ outcomes) × AllByRecursion (λ o. is_busy o ≡ false) outcomes

-- it is what stands first in the lane, where memory sufficed
abbrev pub IsCopyOf : Front → Outlet Item → Type 0
IsCopyOf Front.End items = IsFrontOf Item.End items
IsCopyOf (Front.Event what) items = IsFrontOf (Item.Event what) items
IsCopyOf Front.NoMemory items = ⊤

-- events of one lane
abbrev pub on_lane : ℕ → List What → List Event
on_lane n whats = map (λ what. record { lane = n; what = what }) whats

-- events of the lane are a run from one world to the other, and it was given their outcomes
pub record Serves (was now : Bool) (w new : World) (a b : LaneEnds) : Type 0 where
  pub whats : List What
  pub outcomes : List Outcome
  pub run : HasRun w (on_lane a.lane whats) outcomes new
  pub passes : Passes was now whats outcomes a b

-- the lane gave events and then End
abbrev pub GaveEnd : LaneEnds → LaneEnds → Type 0
GaveEnd a b = (whats : List What) × AreWithEnd true (taken_from a.items ++ items_of whats) (taken_from b.items)

-- a relation of each lane's ends before and after, by its place
pub record EachLane (R : ℕ → LaneEnds → LaneEnds → Type 0) (before after : List LaneEnds) : Type 0 where
  pub long : length after ≡ length before
  pub each : (place : ℕ) (d : LaneEnds) → place < length before → R place (get_or before place d) (get_or after place d)

-- turns with these events and outcomes, and between them these changes of others, lead from one world to the other
abbrev pub HasRunBeside : World → List StampedChange → List Event → List Outcome → World → Type 0
HasRunBeside w changes es os new = (parts : List Part) × AreParts w parts × TakeOver w parts changes × (runs.events (turns_in parts) ≡ es) × (runs.outcomes (turns_in parts) ≡ os) × (after_parts w parts ≡ new)

-- serving has come from one world to the other, beside these changes; which lanes have ended
pub record IsServing (w : World) (before : List LaneEnds) (changes : List StampedChange) (new : World) (after : List LaneEnds) (ended : List Bool) : Type 0 where
  pub distinct : AreDistinct before
  pub events : List Event
  pub outcomes : List Outcome
  pub run : HasRunBeside w changes events outcomes new
  pub given : All (IsOnOne before) events
  pub lanes : EachLane (λ place a b. Passes false (get_or ended place false) (events_on a.lane events) (outcomes_on a.lane events outcomes) a b) before after
