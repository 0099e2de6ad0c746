-- How counting is seen.
use Rattle.std.proofs.Common.{◌≡◌, ◌≤◌, max, Bool, true, false, cond, not, ◌&&◌, ◌||◌, List, [], ◌∷◌, map, ℕ, refl, sym, ap, subst, ◌∙◌, true≢false, arith, Result, Ok, Err, OnOk}
use Rattle.std.specs.List.{AllByRecursion}
use Rattle.std.proofs.lemmas.Bool.Decides.{nat_tests}
use Rattle.hdl_boundedrows.specs.declared.account.Account.{Account}
use Rattle.hdl_boundedrows.specs.declared.account.CountChange.{CountChange}
use Rattle.hdl_boundedrows.specs.Amount.{Measure, in_handles, in_values, in_octets, moved_count, may_become}
use Rattle.hdl_limits.specs.Counts.{at_most_u64}
use Rattle.hdl_boundedrows.specs.Bounded.{has_prefix, is_counted, held_after, may_change, is_permitted, are_permitted, after_change, Holding, holding_of, moved_by, holding_after, IsBelow, IsWithin}

-- the change is this gain and what is given back
pub record IsChange (c : CountChange) (gain back : Measure → ℕ) : Type 0 where
  pub gain_handles : c.gain.handles ≡ at_most_u64 (gain in_handles)
  pub gain_values : c.gain.amount.values ≡ at_most_u64 (gain in_values)
  pub gain_octets : c.gain.amount.octets ≡ at_most_u64 (gain in_octets)
  pub back_handles : c.back.handles ≡ at_most_u64 (back in_handles)
  pub back_values : c.back.amount.values ≡ at_most_u64 (back in_values)
  pub back_octets : c.back.amount.octets ≡ at_most_u64 (back in_octets)

both : (a b : Bool) → (a && b) ≡ true → (a ≡ true) × (b ≡ true)
both true b is = (refl, is)
both false b is = absurd (true≢false (sym is))

neither : (a b : Bool) → (a || b) ≡ false → (a ≡ false) × (b ≡ false)
neither true b is = absurd (true≢false is)
neither false b is = (refl, is)

below : (bound held next : ℕ) → may_become bound held next ≡ true → next ≤ max bound held
below bound held next may = grind (arith, nat_tests)

module _ (p : List ℕ) (c : CountChange) (gain back : Measure → ℕ) (is : IsChange c gain back) where
  seen : (a : Account) → holding_of (after_change p c a) ≡ holding_after p gain back (holding_of a)
  seen a = by_test (has_prefix a p)
    where
      by_test : (b : Bool) → holding_of (cond b (record a { held = held_after c a.held }) a) ≡ cond b (moved_by gain back (holding_of a)) (holding_of a)
      by_test true = λ i. record {
        roots = a.bound.roots.items;
        most_values = a.bound.most.values;
        most_octets = a.bound.most.octets;
        handles = moved_count a.held.handles (is.gain_handles i) (is.back_handles i);
        values = moved_count a.held.amount.values (is.gain_values i) (is.back_values i);
        octets = moved_count a.held.amount.octets (is.gain_octets i) (is.back_octets i);
      }
      by_test false = refl

  pub all_seen : (all : List Account) → map holding_of (map (after_change p c) all) ≡ map (holding_after p gain back) (map holding_of all)
  all_seen [] = refl
  all_seen (a ∷ all) = λ i. seen a i ∷ all_seen all i

  within : (a : Account) → is_permitted p c a ≡ true → IsWithin p (holding_of a) (holding_after p gain back (holding_of a))
  within a permitted among = by_test (has_prefix a p) among permitted
    where
      by_test : (b : Bool) → b ≡ true → (not b || may_change a c) ≡ true → IsBelow (holding_of a) (cond b (moved_by gain back (holding_of a)) (holding_of a))
      by_test true _ may =
          let each = both (may_become a.bound.most.values a.held.amount.values (held_after c a.held).amount.values) (may_become a.bound.most.octets a.held.amount.octets (held_after c a.held).amount.octets) may in (
            subst (λ n. n ≤ max a.bound.most.values a.held.amount.values) (λ i. moved_count a.held.amount.values (is.gain_values i) (is.back_values i)) (below _ _ _ each.0),
            subst (λ n. n ≤ max a.bound.most.octets a.held.amount.octets) (λ i. moved_count a.held.amount.octets (is.gain_octets i) (is.back_octets i)) (below _ _ _ each.1),
          )
      by_test false none may = absurd (true≢false (sym none))

  pub all_within : (all : List Account) → are_permitted all p c ≡ true → AllByRecursion (λ h. IsWithin p h (holding_after p gain back h)) (map holding_of all)
  all_within [] _ = tt
  all_within (a ∷ all) permitted = let each = both (is_permitted p c a) (are_permitted all p c) permitted in (within a each.0, all_within all each.1)

-- where handles of the prefix count for nobody, nothing changes
pub none_settled : (p : List ℕ) (gain back : Measure → ℕ) (all : List Account) → is_counted all p ≡ false → map holding_of all ≡ map (holding_after p gain back) (map holding_of all)
none_settled p gain back [] _ = refl
none_settled p gain back (a ∷ all) none =
    let each = neither (has_prefix a p) (is_counted all p) none in
    λ i. cond (sym each.0 i) (moved_by gain back (holding_of a)) (holding_of a) ∷ none_settled p gain back all each.1 i

pub none_within : (p : List ℕ) (gain back : Measure → ℕ) (all : List Account) → is_counted all p ≡ false → AllByRecursion (λ h. IsWithin p h (holding_after p gain back h)) (map holding_of all)
none_within p gain back [] _ = tt
none_within p gain back (a ∷ all) none =
    let each = neither (has_prefix a p) (is_counted all p) none in
    ((λ among. absurd (true≢false (sym among ∙ each.0))), none_within p gain back all each.1)

-- ---- as a write tells it: by the prefix that it read, and by what was seen before

abbrev AreWithin : List ℕ → (Measure → ℕ) → (Measure → ℕ) → List Holding → Type 0
AreWithin p gain back hs = AllByRecursion (λ h. IsWithin p h (holding_after p gain back h)) hs

on_ok : {A E : Type 0} (r : Result A E) (P : Type 0) → P → OnOk r P
on_ok (Ok x) P is = is
on_ok (Err e) P is = tt

module _ (q p : List ℕ) (read : q ≡ p) (gain back : Measure → ℕ) (all : List Account) (hs : List Holding) (was : map holding_of all ≡ hs) where
  pub settled_as : (c : CountChange) → IsChange c gain back → (new : List Account) → new ≡ map (after_change q c) all → map holding_of new ≡ map (holding_after p gain back) hs
  settled_as c is new made = ap (map holding_of) (made ∙ ap (λ r. map (after_change r c) all) read) ∙ all_seen p c gain back is all ∙ ap (map (holding_after p gain back)) was

  pub within_as : (c : CountChange) → IsChange c gain back → are_permitted all q c ≡ true → AreWithin p gain back hs
  within_as c is permitted = subst (AreWithin p gain back) was (all_within p c gain back is all (subst (λ r. are_permitted all r c ≡ true) read permitted))

  module _ {A E : Type 0} (r : Result A E) (b : Bool) (counts : b ≡ is_counted all q) (none : b ≡ false) where
    nobody : is_counted all p ≡ false
    nobody = sym (counts ∙ ap (is_counted all) read) ∙ none

    pub uncounted : OnOk r (map holding_of all ≡ map (holding_after p gain back) hs)
    uncounted = on_ok r _ (none_settled p gain back all nobody ∙ ap (map (holding_after p gain back)) was)

    pub uncounted_within : OnOk r (AreWithin p gain back hs)
    uncounted_within = on_ok r _ (subst (AreWithin p gain back) was (none_within p gain back all nobody))
