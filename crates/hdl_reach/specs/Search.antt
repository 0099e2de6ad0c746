-- A search over places, each of which leads on to others.
use Rattle.std.specs.Prelude.{◌≡◌, ◌≢◌, ◌≤◌, ◌<◌, ◌⊎◌, ℕ, List, [], ◌∷◌, take, length, Option, Some, IsTrue, IsSome}
use Rattle.std.specs.List.{AllByRecursion, IsDistinct}
use Rattle.hdl_value.specs.Place.{Place, same_place}
use Rattle.hdl_rows.specs.Table.{Table, at, place, values_of}
use Rattle.hdl_reach.specs.declared.found.Found.{Found}
use Rattle.hdl_reach.specs.declared.search.Search.{Search}
use Rattle.hdl_reach.specs.Reach.{is_among, lists, grants}
use Rattle.hdl_reach.specs.Found.{IsWithin, known_at, mask_at, waits, AreWaiting}

-- from p over these places, the last of which is q, each among those to which the one before leads on
abbrev pub IsWalk : (Place → List Place) → Place → List Place → Place → Type 0
IsWalk on p [] q = p ≡ q
IsWalk on p (next ∷ ps) q = IsTrue (is_among next (on p)) × IsWalk on next ps q

abbrev pub IsReached : (Place → List Place) → Place → Place → Type 0
IsReached on p q = (ps : List Place) × IsWalk on p ps q

-- that to which these places lead on is among those seen
abbrev pub IsClosed : (Place → List Place) → List Place → List Place → Type 0
IsClosed on done seen = AllByRecursion (λ p. AllByRecursion (λ q. IsTrue (is_among q seen)) (on p)) done

-- All seen have the property, the starts are seen, none is seen twice, and the first of them were passed: that to which they lead on is seen.
pub record IsSearched (on : Place → List Place) (P : Place → Type 0) (starts : List Place) (next : ℕ) (seen : List Place) : Type 0 where
  pub within : next ≤ length seen
  pub reached : AllByRecursion P seen
  pub closed : IsClosed on (take next seen) seen
  pub begun : AllByRecursion (λ p. IsTrue (is_among p seen)) starts
  pub distinct : IsDistinct same_place seen

-- ---- the masks that lead to places, from the grants of a handle over lists

-- each grant's mask is within the one at its place
abbrev pub IsGranted : List (ℕ × Place) → (Place → Option ℕ) → Type 0
IsGranted gs masks = AllByRecursion (λ g. IsWithin (Some g.0) (masks g.1)) gs

-- the mask at a place is within that of each place that it lists
abbrev pub PassesOn : Table → (Place → Option ℕ) → Place → Type 0
PassesOn t masks p = (q : Place) → IsTrue (is_among q (lists t p)) → IsWithin (masks p) (masks q)

-- bounds of masks: the grants are within them, and each place that is known passes its bound on
abbrev pub AreBounds : Table → List (ℕ × Place) → Found → (Place → Option ℕ) → Type 0
AreBounds t gs f bounds = IsGranted gs bounds × ((p : Place) → IsSome (known_at f p) → PassesOn t bounds p)

-- What is known has the grants, and no more than they and the lists give it; each place passes its mask on or waits, and those that wait are noted.
pub record IsFound (t : Table) (gs : List (ℕ × Place)) (f : Found) : Type 0 where
  pub granted : IsGranted gs (mask_at f)
  pub least : (bounds : Place → Option ℕ) → AreBounds t gs f bounds → (p : Place) → IsWithin (mask_at f p) (bounds p)
  pub passed : (p : Place) → IsTrue (waits (known_at f p)) ⊎ PassesOn t (mask_at f) p
  pub waiting : AreWaiting f

-- the handle whose administrators are searched for
abbrev pub handle_of : Search → List ℕ
handle_of s = s.handle.items

-- what it knows is found from the grants of its handle in this table
abbrev pub IsSearch : Table → Search → Type 0
IsSearch t s = IsFound t (grants (values_of t (handle_of s))) s.found

-- nothing waits to be looked up
abbrev pub IsDone : Search → Type 0
IsDone s = length s.found.waiting.items ≡ 0

-- No mask loses a bit, and no place is dropped. Some place or bit is new, or else fewer references wait.
pub record IsFurther (old new : Search) : Type 0 where
  pub stays : (p : Place) → IsWithin (mask_at old.found p) (mask_at new.found p)
  pub gained : ((p : Place) × (mask_at new.found p ≢ mask_at old.found p)) ⊎ (length new.found.waiting.items < length old.found.waiting.items)

-- two tables that have the same at every other handle
abbrev pub AgreeBeside : List ℕ → Table → Table → Type 0
AgreeBeside h t u = (g : List ℕ) → g ≢ h → ((i : ℕ) → at t (place g i) ≡ at u (place g i)) × (values_of t g ≡ values_of u g)
