-- Chains of lists, and which references are administrators of a handle, with which mask.
use Rattle.std.specs.Prelude.{◌≡◌, ℕ, List, [], ◌∷◌, Bool, Option, Some, None, ◌⊎◌, bit_or, IsTrue}
use Rattle.std.specs.List.{flat_map}
use Rattle.std.specs.Set.{is_member}
use Rattle.hdl_value.specs.Place.{Place, same_place}
use Rattle.hdl_value.specs.Refs.{value_grants, listed_places}
use Rattle.hdl_value.specs.declared.value.Value.{Value}
use Rattle.hdl_rows.specs.Table.{Table, at, values_of}

-- whether the place is one of these
abbrev pub is_among : Place → List Place → Bool
is_among p ps = is_member same_place ps p

abbrev pub listed_in : Option Value → List Place
listed_in None = []
listed_in (Some v) = listed_places v

-- the places that the HS_VLIST value at this place lists; none if there is no such value
abbrev pub lists : Table → Place → List Place
lists t p = listed_in (at t p)

-- from r over these places, the last of which is k, each listed by the value at the one before
abbrev pub IsPath : Table → Place → List Place → Place → Type 0
IsPath t r [] k = r ≡ k
IsPath t r (p ∷ ps) k = IsTrue (is_among p (lists t r)) × IsPath t p ps k

-- lists lead from r to k, over any number of them
abbrev pub IsChain : Table → Place → Place → Type 0
IsChain t r k = (ps : List Place) × IsPath t r ps k

-- mask and place of each HS_ADMIN value among these
abbrev pub grants : List Value → List (ℕ × Place)
grants vs = flat_map value_grants vs

abbrev pub join_masks : Option ℕ → ℕ → ℕ
join_masks None m = m
join_masks (Some n) m = bit_or n m

-- the union so far, and the masks of those grants whose place leads to k
abbrev pub IsUnion : Table → Place → Option ℕ → List (ℕ × Place) → Option ℕ → Type 0
IsUnion t k so_far [] m = m ≡ so_far
IsUnion t k so_far (g ∷ gs) m =
    (IsChain t g.1 k × IsUnion t k (Some (join_masks so_far g.0)) gs m) ⊎ ((IsChain t g.1 k → ⊥) × IsUnion t k so_far gs m)

-- the mask of k for the handle: the union of all masks that lead to k, and none if there is no such mask
abbrev pub IsMask : Table → List ℕ → Place → Option ℕ → Type 0
IsMask t h k m = IsUnion t k None (grants (values_of t h)) m
