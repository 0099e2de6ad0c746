use Rattle.std.proofs.Common.{◌≤◌}
use Rattle.hdl_slots.proofs.Places.{IsMoving}
use Rattle.hdl_slots.proofs.lane.push.Given as goal

abbrev pub invariant-loop-place : goal.invariant-loop-place
invariant-loop-place l = IsMoving l.fn.cells l.cells l.lane l.fn.challenge l.place l.moved × (l.place ≤ 8)

abbrev pub decreases-loop-place : goal.decreases-loop-place
decreases-loop-place l = l.place
