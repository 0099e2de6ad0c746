-- What is kept of one lane.
use Rattle.std.specs.Prelude.{Bool, List, []}
use Rattle.hdl_pool.specs.Partial.{Partial}
use Rattle.hdl_slots.specs.Lanes as slots

-- whether a connection is open, the messages of which pieces came, and the next number of a challenge with the challenges that
-- are pending
pub record LaneState : Type 0 where
  pub is_open : Bool
  pub partials : List Partial
  pub challenges : slots.LaneState

-- a lane after Open (true) or Close (false)
abbrev pub fresh : Bool → LaneState
fresh up = record { is_open = up; partials = []; challenges = slots.fresh }

-- the lane with other partial messages
abbrev pub with_partials : LaneState → List Partial → LaneState
with_partials s partials = record s { partials = partials }
