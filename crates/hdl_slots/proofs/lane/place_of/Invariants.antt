use Rattle.std.proofs.Common.{◌≡◌, ◌<◌, ℕ, false, None, get_or}
use Rattle.hdl_slots.specs.Lanes.{is_of}
use Rattle.hdl_slots.specs.Places.{places_of, passes}
use Rattle.hdl_slots.proofs.lane.place_of.Given as goal

abbrev pub invariant-loop-place : goal.invariant-loop-place
invariant-loop-place l = (k : ℕ) → k < l.place → passes (is_of l.peer l.number) (get_or (places_of l.cells l.lane) k None) ≡ false
