-- What happens in a book from its beginning on, and what of it is one connection's.
use Rattle.std.specs.Prelude.{◌≡◌, ℕ, ◌==◌, if◌then◌else◌, List, [], ◌∷◌, ◌++◌, Some, None}
use Rattle.slab.specs.Slab.{Slab, get, Updates, SameValues}
use Rattle.hdl_overflow_lane.specs.declared.entry.ConnectionEntry.{ConnectionEntry}
use Rattle.hdl_overflow_lane.specs.ConnectionBuffers.{Step, fresh}
use Rattle.hdl_overflow_lane.specs.Connections.{Goes}

-- a connection comes to a place, steps happen on the one at a place, the one at a place is left, or nothing happens
pub data Move : Type 0 where
  comes : ℕ → Move
  goes : ℕ → List Step → Move
  leaves : ℕ → Move
  stays : Move

-- what a move does
abbrev pub Moves : Slab ConnectionEntry → Move → Slab ConnectionEntry → Type 0
Moves old (comes place) new = (e : ConnectionEntry) × (get old place ≡ None) × Updates old new place (Some e) × (e.talk ≡ fresh)
Moves old (goes place steps) new = Goes old new place steps
Moves old (leaves place) new = Updates old new place None
Moves old stays new = SameValues old new

-- moves one after the other
abbrev pub MovesAll : Slab ConnectionEntry → List Move → Slab ConnectionEntry → Type 0
MovesAll b [] c = c ≡ b
MovesAll b (m ∷ ms) c = (mid : Slab ConnectionEntry) × Moves b m mid × MovesAll mid ms c

-- the steps on whoever is at a place, after these before
abbrev pub steps_at : ℕ → List Step → List Move → List Step
steps_at place before [] = before
steps_at place before (comes p ∷ ms) = steps_at place (if p == place then [] else before) ms
steps_at place before (goes p steps ∷ ms) = steps_at place (if p == place then before ++ steps else before) ms
steps_at place before (leaves p ∷ ms) = steps_at place (if p == place then [] else before) ms
steps_at place before (stays ∷ ms) = steps_at place before ms

-- no place has a connection
abbrev pub IsEmpty : Slab ConnectionEntry → Type 0
IsEmpty b = (place : ℕ) → get b place ≡ None
