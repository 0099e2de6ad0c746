-- Places, each of them once.
use Rattle.std.specs.Prelude.{Vec, ◌≡◌, ℕ, List, [], ◌∷◌, ◌++◌, map, IsTrue, if◌then◌else◌}
use Rattle.std.specs.List.{AllByRecursion, IsDistinct}
use Rattle.std.specs.declared.alloc.Global.{Global}
use Rattle.std.specs.declared.cmp.Ordering.{Ordering}
use Rattle.hdl_value.specs.Place.{Place, place_cmp, same_place}
use Rattle.hdl_value.specs.Refs.{place_of}
use Rattle.hdl_value.specs.declared.admin.Reference.{Reference}
use Rattle.hdl_reach.specs.Reach.{is_among}

-- where references point
abbrev pub places : List Reference → List Place
places rs = map place_of rs

-- the octets of a handle, and an index
abbrev pub PlaceKey : Type 0
PlaceKey = Vec ℕ Global × ℕ

abbrev pub place_at : PlaceKey → Place
place_at k = record { handle = k.0.items; index = k.1 }

abbrev pub key_cmp : PlaceKey → PlaceKey → Ordering
key_cmp j k = place_cmp (place_at j) (place_at k)

-- seen, and one more place unless it was seen
abbrev pub with_place : List Place → Place → List Place
with_place seen p = if is_among p seen then seen else seen ++ p ∷ []

-- New has the places of old, and after them those of more that old lacks, each once.
pub record Extends (old more new : List Place) : Type 0 where
  pub tail : List Place
  pub is : new ≡ old ++ tail
  pub from : AllByRecursion (λ p. IsTrue (is_among p more)) tail
  pub all : AllByRecursion (λ p. IsTrue (is_among p new)) more
  pub distinct : IsDistinct same_place old → IsDistinct same_place new
