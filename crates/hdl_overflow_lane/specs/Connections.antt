-- The connections of a crowd, by their places.
use Rattle.std.specs.Prelude.{◌≡◌, ◌≢◌, ◌⊎◌, ℕ, List, [], ◌∷◌, Option, Some, None, option_map}
use Rattle.slab.specs.Slab.{Slab, get, Updates}
use Rattle.hdl_frame.specs.declared.envelope.FrameFault.{FrameFault}
use Rattle.hdl_peers.specs.Peers.{address_among}
use Rattle.hdl_overflow_lane.specs.declared.entry.ConnectionEntry.{ConnectionEntry}
use Rattle.hdl_overflow_lane.specs.declared.entry.ConnectionId.{ConnectionId}
use Rattle.hdl_overflow_lane.specs.declared.timing.Timing.{Timing}
use Rattle.hdl_overflow_lane.specs.ConnectionBuffers.{Step, is_observed, says, refusal_of, HasNothing, TakesAll}

-- the connection at this place is this one
abbrev pub IsAt : Slab ConnectionEntry → ConnectionId → ℕ → Type 0
IsAt entries member place = (e : ConnectionEntry) × (get entries place ≡ Some e) × (member ≡ record { place = place; serial = e.serial })

-- the connection at this place has this number
abbrev pub IsNumberAt : List ConnectionId → Slab ConnectionEntry → ℕ → ℕ → Type 0
IsNumberAt known entries number place = (member : ConnectionId) × (address_among known number ≡ Some member) × IsAt entries member place

-- on the connection at this place these steps happen, and nothing on any other
abbrev pub Goes : Slab ConnectionEntry → Slab ConnectionEntry → ℕ → List Step → Type 0
Goes old new place steps =
    (e f : ConnectionEntry) × (get old place ≡ Some e) × Updates old new place (Some f) × (f.serial ≡ e.serial) × TakesAll e.talk steps f.talk

-- where nothing is left to hand out there nothing happens, else the fault that stands next is told and refused, once
abbrev pub Rests : Slab ConnectionEntry → Slab ConnectionEntry → ℕ → Type 0
Rests old new place =
    (e : ConnectionEntry) × (get old place ≡ Some e)
    × ((HasNothing e.talk × Goes old new place []) ⊎ ((fault : FrameFault) × (e.talk.fault ≡ None) × Goes old new place (is_observed fault ∷ says (refusal_of fault) ∷ [])))

-- since when the connection at this place keeps others waiting
abbrev pub pace_at : Slab ConnectionEntry → ℕ → Option Timing
pace_at entries place = option_map (λ e. e.timing) (get entries place)

abbrev pub SamePaces : Slab ConnectionEntry → Slab ConnectionEntry → Type 0
SamePaces old new = (place : ℕ) → pace_at new place ≡ pace_at old place

-- every other place has what it had
abbrev pub SameBut : ℕ → Slab ConnectionEntry → Slab ConnectionEntry → Type 0
SameBut place old new = (other : ℕ) → other ≢ place → get new other ≡ get old other
