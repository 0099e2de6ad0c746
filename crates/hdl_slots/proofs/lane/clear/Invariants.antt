use Rattle.std.proofs.Common.{◌≡◌, [], length, take, set}
use Rattle.hdl_slots.specs.Places.{places_of, contents}
use Rattle.hdl_slots.proofs.lane.clear.Given as goal

abbrev pub invariant-loop-place : goal.invariant-loop-place
invariant-loop-place l =
    (l.cells ≡ set l.fn.cells l.lane (places_of l.cells l.lane)) × (length (places_of l.cells l.lane) ≡ 8)
    × (contents (take l.place (places_of l.cells l.lane)) ≡ [])
