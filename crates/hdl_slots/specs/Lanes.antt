-- A lane's pending challenges, and what the calls do to one lane (docs/PROTOCOL.md, "Challenge and response").
use Rattle.std.specs.Prelude.{◌≡◌, ⊤, ℕ, ◌+◌, ◌-◌, Bool, false, not, ◌&&◌, nat_eq, if◌then◌else◌, List, [], ◌∷◌, ◌++◌, length, drop, filter, find, Option, option_map, slice_index_or}
use Rattle.std.specs.List.{AllByRecursion}
use Rattle.hdl_limits.specs.declared.TheConstants.{CHALLENGES_MAX}
use Rattle.hdl_slots.specs.declared.pending.Pending.{Pending}
use Rattle.hdl_slots.specs.declared.pending.Challenge.{Challenge}

-- a lane's next number, and its pending challenges with the oldest first
pub record LaneState : Type 0 where
  pub next : ℕ
  pub challenges : List Challenge

-- a lane on which nothing was sent yet
abbrev pub fresh : LaneState
fresh = record { next = 1; challenges = [] }

-- the state of the lane with this number
abbrev pub lane_at : List LaneState → ℕ → LaneState
lane_at lanes lane = slice_index_or lanes lane fresh

-- the number after this one: after the greatest of 32 bits comes 1
abbrev pub next_after : ℕ → ℕ
next_after n = if nat_eq n 4294967295 then 1 else n + 1

-- the newest eight
abbrev pub last_eight : List Challenge → List Challenge
last_eight xs = drop (length xs - CHALLENGES_MAX) xs

-- the challenges but those of this number
abbrev pub without : ℕ → List Challenge → List Challenge
without number = filter (λ c. not (nat_eq c.number number))

-- a challenge of this number
abbrev pub has_number : ℕ → Challenge → Bool
has_number number c = nat_eq c.number number

-- a challenge is put under the lane's next number: one that has this number already is dropped first, and then a ninth displaces the oldest
abbrev pub add_challenge : LaneState → Pending → LaneState
add_challenge lane p = record { next = next_after lane.next; challenges = last_eight (without lane.next lane.challenges ++ (record { number = lane.next; pending = p } ∷ [])) }

-- a challenge of this peer under this number
abbrev pub is_of : ℕ → ℕ → Challenge → Bool
is_of peer number c = nat_eq c.pending.peer peer && nat_eq c.number number

-- what was sent to this peer under this number, if it's pending
abbrev pub challenge_of : List Challenge → ℕ → ℕ → Option Pending
challenge_of cs peer number = option_map (λ c. c.pending) (find (is_of peer number) cs)

-- the lane without what was sent to this peer under this number
abbrev pub spend_challenge : LaneState → ℕ → ℕ → LaneState
spend_challenge lane peer number = record { next = lane.next; challenges = filter (λ c. not (is_of peer number c)) lane.challenges }

-- no two challenges have the same number
abbrev pub NumbersDiffer : List Challenge → Type 0
NumbersDiffer [] = ⊤
NumbersDiffer (c ∷ cs) = AllByRecursion (λ d. nat_eq d.number c.number ≡ false) cs × NumbersDiffer cs
