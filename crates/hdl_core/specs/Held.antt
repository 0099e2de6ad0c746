-- What is held of all lanes: of each its publisher and its state.
use Rattle.std.specs.Prelude.{ℕ, List, [], ◌∷◌, false, get_or, set}
use Rattle.hdl_pool.specs.Partial.{Partial}
use Rattle.hdl_slots.specs.Lanes as slots
use Rattle.hdl_laws.specs.Lanes.{LaneState, fresh}
use Rattle.hdl_core.specs.declared.lane.Lane.{Lane}

pub record Held : Type 0 where
  pub publisher : ℕ
  pub state : LaneState

-- a lane, its partial messages and its challenges
abbrev pub held_lane : Lane → List Partial → slots.LaneState → Held
held_lane lane partials challenges = record { publisher = lane.publisher; state = record { is_open = lane.is_open; partials = partials; challenges = challenges } }

abbrev pub held_lanes : List Lane → List (List Partial) → List slots.LaneState → List Held
held_lanes [] pool all = []
held_lanes (lane ∷ lanes) [] all = []
held_lanes (lane ∷ lanes) (partials ∷ pool) [] = []
held_lanes (lane ∷ lanes) (partials ∷ pool) (challenges ∷ all) = held_lane lane partials challenges ∷ held_lanes lanes pool all

-- what is held of the lane with this number
abbrev pub held_at : List Held → ℕ → Held
held_at lanes number = get_or lanes number (record { publisher = 0; state = fresh false })

abbrev pub state_at : List Held → ℕ → LaneState
state_at lanes number = (held_at lanes number).state

-- the lanes, with another state of one of them
abbrev pub with_state : List Held → ℕ → LaneState → List Held
with_state lanes number state = set lanes number (record { publisher = (held_at lanes number).publisher; state = state })
