-- What is known of places during a search.
use Rattle.std.specs.Prelude.{◌≡◌, ◌≢◌, ◌⊎◌, ⊤, ℕ, List, Bool, true, false, if◌then◌else◌, nat_eq, bit_or, Option, Some, None, option_map, IsTrue}
use Rattle.std.specs.BTreeMap.{get_by}
use Rattle.hdl_value.specs.Place.{Place, place_cmp, same_place}
use Rattle.hdl_reach.specs.declared.found.Found.{Found}
use Rattle.hdl_reach.specs.declared.found.Known.{Known}
use Rattle.hdl_reach.specs.Reach.{is_among}
use Rattle.hdl_reach.specs.Seen.{places, PlaceKey, place_at}

-- no mask is within any, and one is within another that has all its bits
abbrev pub IsWithin : Option ℕ → Option ℕ → Type 0
IsWithin None n = ⊤
IsWithin (Some a) None = ⊥
IsWithin (Some a) (Some b) = bit_or a b ≡ b

-- the mask that leads to a place, and whether the place waits: its list is still to be looked up
abbrev pub mark : Known → ℕ × Bool
mark k = (k.mask.0, k.waits)

-- what is known of a place
abbrev pub known_at : Found → Place → Option (ℕ × Bool)
known_at f p = option_map mark (get_by (λ (k : PlaceKey). place_cmp p (place_at k)) f.known)

abbrev pub mask_in : Option (ℕ × Bool) → Option ℕ
mask_in = option_map (λ (m : ℕ × Bool). m.0)

-- the mask that leads to a place, as far as it is known
abbrev pub mask_at : Found → Place → Option ℕ
mask_at f p = mask_in (known_at f p)

abbrev pub waits : Option (ℕ × Bool) → Bool
waits None = false
waits (Some m) = m.1

-- with one more mask: a place waits if the mask has new bits
abbrev pub raised : Option (ℕ × Bool) → ℕ → ℕ × Bool
raised None m = (m, true)
raised (Some k) m = if nat_eq (bit_or k.0 m) k.0 then k else (bit_or k.0 m, true)

-- the same of each of these places
abbrev pub raised_at : (Place → Option (ℕ × Bool)) → List Place → ℕ → Place → Option (ℕ × Bool)
raised_at known ps m q = if is_among q ps then Some (raised (known q) m) else known q

-- the same of each place, but one no longer waits
abbrev pub settled_at : (Place → Option (ℕ × Bool)) → Place → Place → Option (ℕ × Bool)
settled_at known p q = if same_place q p then option_map (λ (k : ℕ × Bool). (k.0, false)) (known q) else known q

-- each place that waits is among those which are to be looked up
abbrev pub AreWaiting : Found → Type 0
AreWaiting f = (p : Place) → IsTrue (waits (known_at f p)) → IsTrue (is_among p (places f.waiting.items))

-- nothing changed, or there is a place to which another mask leads
abbrev pub HasGained : Found → Found → Type 0
HasGained old new = (new ≡ old) ⊎ ((p : Place) × (mask_at new p ≢ mask_at old p))
