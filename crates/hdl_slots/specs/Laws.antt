-- What follows from the definitions of a lane's calls.
use Rattle.std.specs.Prelude.{◌≡◌, ℕ, ◌≤◌, length, Some, None}
use Rattle.hdl_limits.specs.declared.TheConstants.{CHALLENGES_MAX}
use Rattle.hdl_slots.specs.declared.pending.Pending.{Pending}
use Rattle.hdl_slots.specs.Lanes.{LaneState, add_challenge, challenge_of, spend_challenge}

-- a challenge that was put is found by its peer and the number that it was given
abbrev pub PutIsFound : Type 0
PutIsFound = (lane : LaneState) (p : Pending) → challenge_of (add_challenge lane p).challenges p.peer lane.next ≡ Some p

-- what was taken is not found again
abbrev pub TakenIsGone : Type 0
TakenIsGone = (lane : LaneState) (peer number : ℕ) → challenge_of (spend_challenge lane peer number).challenges peer number ≡ None

-- after a challenge is put, its lane has at most eight
abbrev pub AtMostEight : Type 0
AtMostEight = (lane : LaneState) (p : Pending) → length (add_challenge lane p).challenges ≤ CHALLENGES_MAX
