-- Laws of chains and masks.
use Rattle.std.specs.Prelude.{◌≡◌, ◌≢◌, ◌↔◌, ℕ, List, Option, None, IsTrue}
use Rattle.std.specs.List.{AllByRecursion}
use Rattle.hdl_value.specs.Place.{Place}
use Rattle.hdl_rows.specs.Table.{Table, at, values_of}
use Rattle.hdl_reach.specs.Reach.{is_among, lists, grants, IsChain, IsMask}

-- what these places list is among them
abbrev pub IsOnward : Table → List Place → Type 0
IsOnward table places = (list place : Place) → IsTrue (is_among list places) → IsTrue (is_among place (lists table list)) → IsTrue (is_among place places)

-- both tables have the same at each of these places
abbrev pub AgreeAt : Table → Table → List Place → Type 0
AgreeAt one other places = (place : Place) → IsTrue (is_among place places) → at one place ≡ at other place

-- the place of each grant is among these
abbrev pub GrantsAmong : List Place → List (ℕ × Place) → Type 0
GrantsAmong ps = AllByRecursion (λ g. IsTrue (is_among g.1 ps))

-- a place has one mask for a handle, or none
abbrev pub OneMask : Type 0
OneMask = (t : Table) (h : List ℕ) (k : Place) (m n : Option ℕ) → IsMask t h k m → IsMask t h k n → m ≡ n

-- index 0 is no administrator
abbrev pub NoneAtZero : Type 0
NoneAtZero = (t : Table) (h : List ℕ) (k : Place) (m : Option ℕ) → k.index ≡ 0 → IsMask t h k m → m ≡ None

-- tables that agree at places which list no others have the same chains from these
abbrev pub SameChains : Type 0
SameChains = (t u : Table) (ps : List Place) → IsOnward t ps → AgreeAt t u ps → (r k : Place) → IsTrue (is_among r ps) → IsChain t r k ↔ IsChain u r k

-- and the same masks for a handle whose values they share, if the places that these grant are among them
abbrev pub SameMasks : Type 0
SameMasks =
    (t u : Table) (ps : List Place) (h : List ℕ) → IsOnward t ps → AgreeAt t u ps → values_of t h ≡ values_of u h → GrantsAmong ps (grants (values_of t h))
    → (k : Place) (m : Option ℕ) → IsMask t h k m ↔ IsMask u h k m

-- an administrator is then among these places
abbrev pub AdministratorsAmong : Type 0
AdministratorsAmong =
    (t : Table) (ps : List Place) (h : List ℕ) → IsOnward t ps → GrantsAmong ps (grants (values_of t h)) → (k : Place) (m : Option ℕ) → IsMask t h k m → m ≢ None → IsTrue (is_among k ps)
