-- Chains and masks of one table, and of two that agree at places which list no others.
use Rattle.std.proofs.Common.{◌≡◌, ◌⊎◌, inl, inr, ℕ, List, [], ◌∷◌, Bool, true, false, Option, Some, None, refl, sym, ap, subst, ◌∙◌, filter, not, ◌==◌, ◌&&◌, if◌then◌else◌, IsTrue, true≢false, map}
use Rattle.std.specs.List.{AllByRecursion}
use Rattle.std.proofs.lemmas.Map.Made.{is_member-filter}
use Rattle.hdl_value.specs.Place.{Place}
use Rattle.hdl_value.specs.Refs.{value_grants, granted_by, admin_read, listed_by, list_read, refers, place}
use Rattle.hdl_value.specs.declared.references.RawRef.{RawRef}
use Rattle.hdl_value.specs.declared.value.Value.{Value}
use Rattle.hdl_value.proofs.Places.{places_equal}
use Rattle.hdl_rows.specs.Table.{Table, at, values_of}
use Rattle.hdl_reach.specs.Reach.{is_among, listed_in, lists, IsPath, grants, join_masks, IsUnion, IsMask}
use Rattle.hdl_reach.specs.Laws.{IsOnward, AgreeAt, GrantsAmong}
use Rattle.hdl_reach.proofs.Members.{same_laws, all_append}

-- ---- one mask

pub one_union : (t : Table) (k : Place) (so_far : Option ℕ) (gs : List (ℕ × Place)) (m n : Option ℕ) → IsUnion t k so_far gs m → IsUnion t k so_far gs n → m ≡ n
one_union t k so_far [] m n a b = a ∙ sym b
one_union t k so_far (g ∷ gs) m n (inl a) (inl b) = one_union t k (Some (join_masks so_far g.0)) gs m n a.1 b.1
one_union t k so_far (g ∷ gs) m n (inl a) (inr b) = absurd (b.0 a.0)
one_union t k so_far (g ∷ gs) m n (inr a) (inl b) = absurd (a.0 b.0)
one_union t k so_far (g ∷ gs) m n (inr a) (inr b) = one_union t k so_far gs m n a.1 b.1

-- ---- what refers to something

right_true : (a b : Bool) → (a && b) ≡ true → b ≡ true
right_true true b h = h
right_true false b h = absurd (let no : false ≡ true = h in cc)

among_referring : (ps : List Place) (p : Place) → IsTrue (is_among p (filter refers ps)) → refers p ≡ true
among_referring ps p h = right_true (is_among p ps) (refers p) (sym (is_member-filter same_laws refers p (λ q same. ap refers (places_equal p q same)) ps) ∙ h)

listed_refers : (o : Option (List RawRef)) (p : Place) → IsTrue (is_among p (listed_by o)) → refers p ≡ true
listed_refers None p h = absurd (let no : false ≡ true = h in cc)
listed_refers (Some rs) p h = among_referring (map place rs) p h

found_refers : (o : Option Value) (p : Place) → IsTrue (is_among p (listed_in o)) → refers p ≡ true
found_refers None p h = absurd (let no : false ≡ true = h in cc)
found_refers (Some v) p h = listed_refers (list_read v) p h

path_refers : (t : Table) (r : Place) (ps : List Place) (k : Place) → refers r ≡ true → IsPath t r ps k → refers k ≡ true
path_refers t r [] k here path = subst (λ p. refers p ≡ true) path here
path_refers t r (p ∷ ps) k here path = path_refers t p ps k (found_refers (at t r) p path.0) path.1

abbrev GrantsRefer : List (ℕ × Place) → Type 0
GrantsRefer = AllByRecursion (λ g. refers g.1 ≡ true)

one_refers : (g : ℕ × Place) (b : Bool) → refers g.1 ≡ b → GrantsRefer (if b then g ∷ [] else [])
one_refers g true is = (is, tt)
one_refers g false is = tt

granted_refers : (o : Option (ℕ × RawRef)) → GrantsRefer (granted_by o)
granted_refers None = tt
granted_refers (Some x) = one_refers (x.0, place x.1) (refers (place x.1)) refl

grants_refer : (vs : List Value) → GrantsRefer (grants vs)
grants_refer [] = tt
grants_refer (v ∷ vs) = all_append _ (value_grants v) (grants vs) (granted_refers (admin_read v)) (grants_refer vs)

none_refers : (t : Table) (k : Place) (so_far : Option ℕ) (gs : List (ℕ × Place)) (m : Option ℕ) → refers k ≡ false → GrantsRefer gs → IsUnion t k so_far gs m → m ≡ so_far
none_refers t k so_far [] m zero all a = a
none_refers t k so_far (g ∷ gs) m zero all (inl a) = absurd (true≢false (sym (path_refers t g.1 a.0.0 k all.0 a.0.1) ∙ zero))
none_refers t k so_far (g ∷ gs) m zero all (inr a) = none_refers t k so_far gs m zero all.1 a.1

pub zero_refers : (t : Table) (h : List ℕ) (k : Place) (m : Option ℕ) → k.index ≡ 0 → IsMask t h k m → m ≡ None
zero_refers t h k m zero is = none_refers t k None (grants (values_of t h)) m (ap (λ n. not (n == 0)) zero) (grants_refer (values_of t h)) is

-- ---- places that list no others

module _ (t u : Table) (ps : List Place) (onward : IsOnward t ps) where
  pub path_among : (r : Place) (path : List Place) (k : Place) → IsTrue (is_among r ps) → IsPath t r path k → IsTrue (is_among k ps)
  path_among r [] k here is = subst (λ p. IsTrue (is_among p ps)) is here
  path_among r (p ∷ path) k here is = path_among p path k (onward r p here is.0) is.1

  -- whose mask it is, is among these places
  pub union_among : (k : Place) (so_far : Option ℕ) (gs : List (ℕ × Place)) (m : Option ℕ) → GrantsAmong ps gs → IsUnion t k so_far gs m → IsTrue (is_among k ps) ⊎ (m ≡ so_far)
  union_among k so_far [] m all is = inr is
  union_among k so_far (g ∷ gs) m all (inl is) = inl (path_among g.1 is.0.0 k all.0 is.0.1)
  union_among k so_far (g ∷ gs) m all (inr is) = union_among k so_far gs m all.1 is.1

  module _ (agree : AgreeAt t u ps) where
    lists_agree : (r : Place) → IsTrue (is_among r ps) → lists t r ≡ lists u r
    lists_agree r here = ap listed_in (agree r here)

    pub path_agrees : (r : Place) (path : List Place) (k : Place) → IsTrue (is_among r ps) → IsPath t r path k → IsPath u r path k
    path_agrees r [] k here is = is
    path_agrees r (p ∷ path) k here is =
        (subst (λ qs. IsTrue (is_among p qs)) (lists_agree r here) is.0, path_agrees p path k (onward r p here is.0) is.1)

    pub path_agreed : (r : Place) (path : List Place) (k : Place) → IsTrue (is_among r ps) → IsPath u r path k → IsPath t r path k
    path_agreed r [] k here is = is
    path_agreed r (p ∷ path) k here is =
        let first = subst (λ qs. IsTrue (is_among p qs)) (sym (lists_agree r here)) is.0 in
        (first, path_agreed p path k (onward r p here first) is.1)

    pub union_agrees : (k : Place) (so_far : Option ℕ) (gs : List (ℕ × Place)) (m : Option ℕ) → GrantsAmong ps gs → IsUnion t k so_far gs m → IsUnion u k so_far gs m
    union_agrees k so_far [] m all is = is
    union_agrees k so_far (g ∷ gs) m all (inl is) =
        inl ((is.0.0, path_agrees g.1 is.0.0 k all.0 is.0.1), union_agrees k (Some (join_masks so_far g.0)) gs m all.1 is.1)
    union_agrees k so_far (g ∷ gs) m all (inr is) =
        inr ((λ chain. is.0 (chain.0, path_agreed g.1 chain.0 k all.0 chain.1)), union_agrees k so_far gs m all.1 is.1)

    pub union_agreed : (k : Place) (so_far : Option ℕ) (gs : List (ℕ × Place)) (m : Option ℕ) → GrantsAmong ps gs → IsUnion u k so_far gs m → IsUnion t k so_far gs m
    union_agreed k so_far [] m all is = is
    union_agreed k so_far (g ∷ gs) m all (inl is) =
        inl ((is.0.0, path_agreed g.1 is.0.0 k all.0 is.0.1), union_agreed k (Some (join_masks so_far g.0)) gs m all.1 is.1)
    union_agreed k so_far (g ∷ gs) m all (inr is) =
        inr ((λ chain. is.0 (chain.0, path_agrees g.1 chain.0 k all.0 chain.1)), union_agreed k so_far gs m all.1 is.1)
