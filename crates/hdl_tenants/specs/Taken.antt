-- The places of the rows so far, as they are kept to be asked.
use Rattle.std.specs.Prelude.{◌≡◌, ℕ, List, map, count_by, unwrap_or}
use Rattle.std.specs.Map.{lookup}
use Rattle.std.specs.Str.{bytes_eq}
use Rattle.hdl_value.specs.Place.{Place}
use Rattle.hdl_tenants.specs.declared.taken.PlaceKey.{PlaceKey}
use Rattle.hdl_tenants.specs.declared.taken.TakenPlaces.{TakenPlaces}

-- how many of the places are of this handle
abbrev pub count_at : List ℕ → List Place → ℕ
count_at handle places = count_by (λ p. bytes_eq p.handle handle) places

abbrev pub place_in : PlaceKey → Place
place_in key = record { handle = key.handle.items; index = key.index }

-- what is kept are these places, and how many of them each handle has
pub record Indexes (kept : TakenPlaces) (places : List Place) : Type 0 where
  pub listed : map place_in kept.places.keys ≡ places
  pub counted : (handle : List ℕ) → unwrap_or (lookup (λ k. bytes_eq handle k.items) kept.counts.entries) 0 ≡ count_at handle places
