-- The orders of handles and of places are total, and only equal ones tie.
use Rattle.std.proofs.Common.{◌≡◌, ℕ, List, Bool, true, false, ◌||◌, T, refl, sym, ap, subst, ◌∙◌, Ordering, Less, Equal, Greater, is_eq, IsTrue}
use Rattle.std.specs.Ordering.{nat_cmp, ordering_then}
use Rattle.std.specs.Cmp.{IsTotalOrder, then_total, on_total, nat_cmp_total, tied_itself}
use Rattle.std.specs.Cmp.Lexicographic.{nat_list_cmp_total}
use Rattle.std.specs.FinMap.{IsAntisymmetric, nat_cmp-IsAntisymmetric, slice_cmp-IsAntisymmetric}
use Rattle.std.specs.FinSet as set
use Rattle.hdl_value.specs.Place.{Place, handle_cmp, place_cmp, same_handle, same_place}

pub handle_total : IsTotalOrder handle_cmp
handle_total = nat_list_cmp_total

pub handle_antisymmetric : IsAntisymmetric handle_cmp
handle_antisymmetric = slice_cmp-IsAntisymmetric nat_cmp-IsAntisymmetric

pub place_total : IsTotalOrder place_cmp
place_total = then_total (on_total (λ (p : Place). p.handle) nat_list_cmp_total) (on_total (λ (p : Place). p.index) nat_cmp_total)

-- what a test of equality says of the order
pub tied : (o : Ordering) → is_eq o ≡ true → o ≡ Equal
tied Less e = absurd (subst T (sym e) tt)
tied Equal e = refl
tied Greater e = absurd (subst T (sym e) tt)

both_tied : (a b : Ordering) → is_eq (ordering_then a b) ≡ true → (a ≡ Equal) × (b ≡ Equal)
both_tied Equal b e = (refl, tied b e)
both_tied Less b e = absurd (subst T (sym e) tt)
both_tied Greater b e = absurd (subst T (sym e) tt)

pub place_antisymmetric : IsAntisymmetric place_cmp
place_antisymmetric p q e =
    let parts = both_tied (handle_cmp p.handle q.handle) (nat_cmp p.index q.index) (ap is_eq e) in
    λ i. record { handle = handle_antisymmetric p.handle q.handle parts.0 i; index = nat_cmp-IsAntisymmetric p.index q.index parts.1 i }

-- ---- the tests are equality

pub handles_equal : (g h : List ℕ) → IsTrue (same_handle g h) → g ≡ h
handles_equal g h e = handle_antisymmetric g h (tied _ e)

pub handle_itself : (h : List ℕ) → IsTrue (same_handle h h)
handle_itself h = ap is_eq (tied_itself handle_total h)

pub places_equal : (p q : Place) → IsTrue (same_place p q) → p ≡ q
places_equal p q e = place_antisymmetric p q (tied _ e)

pub place_itself : (p : Place) → IsTrue (same_place p p)
place_itself p = ap is_eq (tied_itself place_total p)

-- ---- sets of handles

-- a member is put into a set without a change
pub insert_member : (s : set.FinSet handle_cmp) (h : List ℕ) → set.contains s h ≡ true → set.insert s h ≡ s
insert_member s h there = set.same_set handle_total handle_antisymmetric _ _ (λ q. set.contains-insert handle_total s h q ∙ by q (same_handle q h) refl)
  where
    by : (q : List ℕ) (b : Bool) → same_handle q h ≡ b → (b || set.contains s q) ≡ set.contains s q
    by q true e = sym (ap (set.contains s) (handles_equal q h e) ∙ there)
    by q false e = refl
