-- The eight places of each lane: their contents, their order, and what the calls do to those of one lane.
use Rattle.std.specs.Prelude.{◌≡◌, ℕ, ◌<◌, Bool, true, false, List, [], ◌∷◌, length, Option, Some, None, slice_index_or, slice_set}
use Rattle.std.specs.List.{filter_map}
use Rattle.std.specs.Option.{option_map_or}
use Rattle.hdl_limits.specs.declared.TheConstants.{LANES, CHALLENGES_MAX}
use Rattle.hdl_slots.specs.declared.pending.Challenge.{Challenge}
use Rattle.hdl_slots.specs.Lanes.{LaneState, NumbersDiffer}

-- the places of the lane with this number
abbrev pub places_of : List (List (Option Challenge)) → ℕ → List (Option Challenge)
places_of lanes lane = slice_index_or lanes lane []

-- the challenge in this place of this lane
abbrev pub at_place : List (List (Option Challenge)) → ℕ → ℕ → Option Challenge
at_place lanes lane place = slice_index_or (places_of lanes lane) place None

-- the challenges in these places, in their order
abbrev pub contents : List (Option Challenge) → List Challenge
contents = filter_map (λ place. place)

-- the lanes' states: the next number of each, and the challenges in its places
abbrev pub states : List ℕ → List (List (Option Challenge)) → List LaneState
states [] lanes = []
states (n ∷ ns) [] = []
states (n ∷ ns) (lane ∷ lanes) = record { next = n; challenges = contents lane } ∷ states ns lanes

-- a lane has eight places, and no number twice
pub record IsLane (places : List (Option Challenge)) : Type 0 where
  pub eight : length places ≡ CHALLENGES_MAX
  pub differ : NumbersDiffer (contents places)

-- all lanes, each with a next number
pub record AreLanes (numbers : List ℕ) (lanes : List (List (Option Challenge))) : Type 0 where
  pub numbers_len : length numbers ≡ LANES
  pub lanes_len : length lanes ≡ LANES
  pub each : (lane : ℕ) → lane < LANES → IsLane (places_of lanes lane)

-- there is a challenge in this place, and the test passes for it
abbrev pub passes : (Challenge → Bool) → Option Challenge → Bool
passes test place = option_map_or test place false

-- the first place for which the test passes
abbrev pub IsFirst : (Challenge → Bool) → List (Option Challenge) → Option ℕ → Type 0
IsFirst test places None = (k : ℕ) → k < length places → passes test (slice_index_or places k None) ≡ false
IsFirst test places (Some i) =
    (i < length places) × (passes test (slice_index_or places i None) ≡ true)
    × ((k : ℕ) → k < i → passes test (slice_index_or places k None) ≡ false)

-- the lane's challenges are these now, and every other lane is as it was
pub record Becomes (old new : List (List (Option Challenge))) (lane : ℕ) (challenges : List Challenge) : Type 0 where
  pub others : new ≡ slice_set old lane (places_of new lane)
  pub eight : length (places_of new lane) ≡ CHALLENGES_MAX
  pub lane_is : contents (places_of new lane) ≡ challenges
