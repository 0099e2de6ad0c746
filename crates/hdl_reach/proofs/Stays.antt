-- A search of one table is one of another, which differs at a handle alone of which it knows nothing.
use Rattle.std.proofs.Common.{◌≡◌, ◌≢◌, ◌⊎◌, inl, inr, ℕ, List, Bool, false, Option, Some, None, refl, sym, ap, subst, ◌∙◌, IsTrue, IsSome, true≢false}
use Rattle.std.specs.Prelude.{bytes_eq}
use Rattle.std.proofs.lemmas.Slice.Eq.{bytes_eq-Decides}
use Rattle.hdl_value.specs.Place.{Place}
use Rattle.hdl_rows.specs.Table.{Table, values_of}
use Rattle.hdl_reach.specs.declared.found.Found.{Found}
use Rattle.hdl_reach.specs.declared.search.Search.{Search}
use Rattle.hdl_reach.specs.Reach.{is_among, listed_in, lists, grants}
use Rattle.hdl_reach.specs.Found.{IsWithin, known_at, mask_in, mask_at, waits}
use Rattle.hdl_reach.specs.Search.{handle_of, PassesOn, IsFound, IsSearch, AgreeBeside}

module _ (h : List ℕ) (t u : Table) (agree : AgreeBeside h t u) where
  lists_stay : (p : Place) → p.handle ≢ h → lists t p ≡ lists u p
  lists_stay p apart = ap listed_in ((agree p.handle apart).0 p.index)

  module _ (gs : List (ℕ × Place)) (f : Found) (apart : (p : Place) → IsSome (known_at f p) → p.handle ≢ h) where
    passes_still : (p : Place) → PassesOn t (mask_at f) p → PassesOn u (mask_at f) p
    passes_still p passes q listed = by (known_at f p) refl
      where
        by : (o : Option (ℕ × Bool)) → known_at f p ≡ o → IsWithin (mask_at f p) (mask_at f q)
        by None is = subst (λ k. IsWithin (mask_in k) (mask_at f q)) (sym is) tt
        by (Some k) is = passes q (subst (λ ps. IsTrue (is_among q ps)) (sym (lists_stay p (apart p (subst IsSome (sym is) refl)))) listed)

    found_stays : IsFound t gs f → IsFound u gs f
    found_stays is = record {
      granted = is.granted;
      least = λ bounds are p. is.least bounds (are.0, λ q there r listed. are.1 q there r (subst (λ ps. IsTrue (is_among r ps)) (lists_stay q (apart q there)) listed)) p;
      passed = λ p. by p (is.passed p);
      waiting = is.waiting;
    }
      where
        by : (p : Place) → IsTrue (waits (known_at f p)) ⊎ PassesOn t (mask_at f) p → IsTrue (waits (known_at f p)) ⊎ PassesOn u (mask_at f) p
        by p (inl waiting) = inl waiting
        by p (inr passes) = inr (passes_still p passes)

  pub search_stays : (s : Search) → handle_of s ≢ h → ((p : Place) → IsSome (known_at s.found p) → p.handle ≢ h) → IsSearch t s → IsSearch u s
  search_stays s other apart is =
      subst (λ vs. IsFound u (grants vs) s.found) (agree (handle_of s) other).1 (found_stays (grants (values_of t (handle_of s))) s.found apart is)

-- what isn't for a handle, is for another
pub other_handle : (s : Search) (h : List ℕ) (b : Bool) → b ≡ bytes_eq (handle_of s) h → b ≡ false → handle_of s ≢ h
other_handle s h b is not_same same = true≢false (sym ((bytes_eq-Decides (handle_of s) h).1 same) ∙ sym is ∙ not_same)
