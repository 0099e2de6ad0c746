-- The slab that holds the places of all lanes, and the table of its keys.
use Rattle.std.specs.Prelude.{◌≡◌, ℕ, ◌<◌, List, [], map, length, Option, Some, None, option_map, slice_index, slice_index_or}
use Rattle.std.specs.Option.{option_and_then}
use Rattle.slab.specs.Slab.{Slab, get}
use Rattle.hdl_limits.specs.declared.TheConstants.{LANES, CHALLENGES_MAX}
use Rattle.hdl_slots.specs.declared.cells.Cell.{Cell}
use Rattle.hdl_slots.specs.declared.pending.Challenge.{Challenge}

-- the challenge in the cell of this key
abbrev pub challenge_in : Slab Cell → ℕ → Option Challenge
challenge_in slab key = option_and_then (λ c. c.challenge) (get slab key)

-- the contents of the cells of these keys
abbrev pub lanes_held : Slab Cell → List (List ℕ) → List (List (Option Challenge))
lanes_held slab = map (map (challenge_in slab))

-- the key of this place of this lane
abbrev pub key_at : List (List ℕ) → ℕ → ℕ → ℕ
key_at keys lane place = slice_index (slice_index_or keys lane []) place

-- the lane and the place that the cell of this key is of
abbrev pub owner : Slab Cell → ℕ → Option (ℕ × ℕ)
owner slab key = option_map (λ c. (c.lane, c.place)) (get slab key)

-- an empty cell
abbrev pub empty_cell : ℕ → ℕ → Cell
empty_cell lane place = record { lane = lane; place = place; challenge = None }

-- the key of each place finds the cell of that place, so no two places share a cell
pub record IsTable (slab : Slab Cell) (keys : List (List ℕ)) : Type 0 where
  pub lanes : length keys ≡ LANES
  pub places : (lane : ℕ) → lane < LANES → length (slice_index_or keys lane []) ≡ CHALLENGES_MAX
  pub owned : (lane place : ℕ) → lane < LANES → place < CHALLENGES_MAX → owner slab (key_at keys lane place) ≡ Some (lane, place)
