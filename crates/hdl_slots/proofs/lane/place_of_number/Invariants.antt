use Rattle.std.proofs.Common.{◌≡◌, ◌<◌, ℕ, false, None, get_or}
use Rattle.hdl_slots.specs.Lanes.{has_number}
use Rattle.hdl_slots.specs.Places.{places_of, passes}
use Rattle.hdl_slots.proofs.lane.place_of_number.Given as goal

abbrev pub invariant-loop-place : goal.invariant-loop-place
invariant-loop-place l = (k : ℕ) → k < l.place → passes (has_number l.number) (get_or (places_of l.cells l.lane) k None) ≡ false
