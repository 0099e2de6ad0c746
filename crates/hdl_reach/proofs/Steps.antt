-- What is found stays so, grant by grant and list by list.
use Rattle.std.proofs.Common.{◌≡◌, ◌≢◌, ℕ, ◌<◌, length, length-append, List, [], ◌∷◌, ◌++◌, Bool, true, false, ◌||◌, if◌then◌else◌, Option, Some, None, option_map, ◌⊎◌, inl, inr, refl, sym, ap, subst, ◌∙◌, arith, IsTrue, IsSome, true≢false}
use Rattle.std.specs.Prelude.{Vec}
use Rattle.std.specs.declared.alloc.Global.{Global}
use Rattle.std.specs.List.{AllByRecursion}
use Rattle.hdl_value.specs.Place.{Place, same_place}
use Rattle.hdl_value.specs.Refs.{place_of}
use Rattle.hdl_value.specs.declared.admin.Reference.{Reference}
use Rattle.hdl_value.proofs.Places.{places_equal}
use Rattle.hdl_rows.specs.Table.{Table}
use Rattle.hdl_reach.specs.declared.found.Found.{Found}
use Rattle.hdl_reach.specs.declared.search.Search.{Search}
use Rattle.hdl_reach.specs.Reach.{is_among, lists}
use Rattle.hdl_reach.specs.Found.{IsWithin, known_at, mask_in, mask_at, waits, raised_at, settled_at, AreWaiting, HasGained}
use Rattle.hdl_reach.specs.Search.{PassesOn, IsFound, IsDone, IsFurther}
use Rattle.hdl_reach.proofs.Members.{all_weaker, all_push, among_first}
use Rattle.hdl_reach.proofs.Orders.{within_itself, within_trans, within_both}
use Rattle.hdl_reach.proofs.Raises.{grows, gives, bounded, waits_or_same, stays_known, settled_mask, settled_known, settled_other, settled_waits, settle_none, take_waits, known_same, unmasked}

pub all_front : {X : Type 0} (P : X → Type 0) (xs ys : List X) → AllByRecursion P (xs ++ ys) → AllByRecursion P xs
all_front P [] ys all = tt
all_front P (x ∷ xs) ys all = (all.0, all_front P xs ys all.1)

pub all_last : {X : Type 0} (P : X → Type 0) (xs : List X) (x : X) → AllByRecursion P (xs ++ x ∷ []) → P x
all_last P [] x all = all.0
all_last P (y ∷ xs) x all = all_last P xs x all.1

-- ---- the grants

-- nothing is found from no grants
pub found_none : (t : Table) (f : Found) → ((p : Place) → known_at f p ≡ None) → IsFound t [] f
found_none t f none = record {
  granted = tt;
  least = λ bounds are p. subst (λ o. IsWithin (mask_in o) (bounds p)) (sym (none p)) tt;
  passed = λ p. inr (λ q listed. subst (λ o. IsWithin (mask_in o) (mask_at f q)) (sym (none p)) tt);
  waiting = λ p h. absurd (true≢false (sym h ∙ ap waits (none p)));
}

-- one grant more
pub found_grant : (t : Table) (gs : List (ℕ × Place)) (old new : Found) (m : ℕ) (r : Place) → IsFound t gs old → ((q : Place) → known_at new q ≡ raised_at (known_at old) (r ∷ []) m q) → AreWaiting new → IsFound t (gs ++ (m, r) ∷ []) new
found_grant t gs old new m r h is noted =
    let more = grows (known_at old) (known_at new) (r ∷ []) m is in
    record {
      granted = all_push (λ g. IsWithin (Some g.0) (mask_at new g.1)) gs (m, r) (all_weaker _ _ (λ g there. within_trans (Some g.0) (mask_at old g.1) (mask_at new g.1) there (more g.1)) gs h.granted) (gives (known_at old) (known_at new) (r ∷ []) m is r (among_first r []));
      least = λ bounds are p.
          bounded (known_at old) (known_at new) (r ∷ []) m is (bounds p) p
          (h.least bounds (all_front _ gs _ are.0, λ q there. are.1 q (stays_known (known_at old) (known_at new) (r ∷ []) m is q there)) p)
          (λ here. subst (λ q. IsWithin (Some m) (bounds q)) (sym (places_equal p r (only p here))) (all_last _ gs (m, r) are.0));
      passed = λ p. passed_still p (waits_or_same (known_at old) (known_at new) (r ∷ []) m is p) (h.passed p) more;
      waiting = noted;
    }
  where
    left : (a : Bool) → (a || false) ≡ true → a ≡ true
    left true h = refl
    left false h = h

    only : (p : Place) → IsTrue (is_among p (r ∷ [])) → same_place p r ≡ true
    only p here = left (same_place p r) here

    passed_still : (p : Place) → IsTrue (waits (known_at new p)) ⊎ (known_at new p ≡ known_at old p) → IsTrue (waits (known_at old p)) ⊎ PassesOn t (mask_at old) p → ((q : Place) → IsWithin (mask_at old q) (mask_at new q)) → IsTrue (waits (known_at new p)) ⊎ PassesOn t (mask_at new) p
    passed_still p (inl waiting) was more = inl waiting
    passed_still p (inr same) (inl waiting) more = inl (subst (λ o. IsTrue (waits o)) (sym same) waiting)
    passed_still p (inr same) (inr passes) more = inr (λ q listed. subst (λ o. IsWithin (mask_in o) (mask_at new q)) (sym same) (within_trans (mask_at old p) (mask_at old q) (mask_at new q) (passes q listed) (more q)))

-- ---- a place that is looked up

-- nothing more is known
pub found_alike : (t : Table) (gs : List (ℕ × Place)) (old new : Found) → IsFound t gs old → ((q : Place) → known_at old q ≡ known_at new q) → AreWaiting new → IsFound t gs new
found_alike t gs old new h still noted = record {
  granted = all_weaker _ _ (λ g there. subst (λ o. IsWithin (Some g.0) (mask_in o)) (still g.1) there) gs h.granted;
  least = λ bounds are p. subst (λ o. IsWithin (mask_in o) (bounds p)) (still p) (h.least bounds (are.0, λ q there. are.1 q (subst IsSome (still q) there)) p);
  passed = λ p. by p (h.passed p);
  waiting = noted;
}
  where
    by : (p : Place) → IsTrue (waits (known_at old p)) ⊎ PassesOn t (mask_at old) p → IsTrue (waits (known_at new p)) ⊎ PassesOn t (mask_at new) p
    by p (inl waiting) = inl (subst (λ o. IsTrue (waits o)) (still p) waiting)
    by p (inr passes) = inr (λ q listed. subst (λ o. IsWithin (mask_in o) (mask_at new q)) (still p) (subst (λ o. IsWithin (mask_at old p) (mask_in o)) (still q) (passes q listed)))

-- the one that was taken passes its mask on to all that it lists
module _ (t : Table) (gs : List (ℕ × Place)) (old mid new : Found) (here : Place) (m : ℕ) (mask : Some m ≡ mask_at old here) (settled : (q : Place) → known_at mid q ≡ settled_at (known_at old) here q)
    (raised : (q : Place) → known_at new q ≡ raised_at (known_at mid) (lists t here) m q) where
  pub passing : (q : Place) → IsWithin (mask_at old q) (mask_at new q)
  passing q = subst (λ o. IsWithin o (mask_at new q)) (settled_mask (known_at old) (known_at mid) here settled q) (grows (known_at mid) (known_at new) (lists t here) m raised q)

  still_known : (q : Place) → IsSome (known_at old q) → IsSome (known_at new q)
  still_known q there = stays_known (known_at mid) (known_at new) (lists t here) m raised q (settled_known (known_at old) (known_at mid) here settled q there)

  known_here : IsSome (known_at old here)
  known_here = some_of (known_at old here) (subst IsSome mask refl)
    where
      some_of : (o : Option (ℕ × Bool)) → IsSome (mask_in o) → IsSome o
      some_of None h = h
      some_of (Some k) h = refl

  passes_here : (p : Place) → same_place p here ≡ true → known_at new p ≡ known_at mid p → PassesOn t (mask_at new) p
  passes_here p is same q listed =
      let at = places_equal p here is in
      let masked : mask_at new p ≡ Some m = ap mask_in same ∙ settled_mask (known_at old) (known_at mid) here settled p ∙ ap (mask_at old) at ∙ sym mask in
      subst (λ o. IsWithin o (mask_at new q)) (sym masked) (gives (known_at mid) (known_at new) (lists t here) m raised q (subst (λ r. IsTrue (is_among q (lists t r))) at listed))

  passes_other : (p : Place) → same_place p here ≡ false → known_at new p ≡ known_at mid p → IsTrue (waits (known_at old p)) ⊎ PassesOn t (mask_at old) p → IsTrue (waits (known_at new p)) ⊎ PassesOn t (mask_at new) p
  passes_other p apart same (inl waiting) = inl (subst (λ o. IsTrue (waits o)) (sym (same ∙ settled_other (known_at old) (known_at mid) here settled p apart)) waiting)
  passes_other p apart same (inr passes) =
      inr (λ q listed. subst (λ o. IsWithin (mask_in o) (mask_at new q)) (sym (same ∙ settled_other (known_at old) (known_at mid) here settled p apart))
      (within_trans (mask_at old p) (mask_at old q) (mask_at new q) (passes q listed) (passing q)))

  passes_still : (p : Place) → IsTrue (waits (known_at new p)) ⊎ (known_at new p ≡ known_at mid p) → IsTrue (waits (known_at old p)) ⊎ PassesOn t (mask_at old) p → IsTrue (waits (known_at new p)) ⊎ PassesOn t (mask_at new) p
  passes_still p (inl waiting) was = inl waiting
  passes_still p (inr same) was = by (same_place p here) refl
    where
      by : (b : Bool) → same_place p here ≡ b → IsTrue (waits (known_at new p)) ⊎ PassesOn t (mask_at new) p
      by true is = inr (passes_here p is same)
      by false apart = passes_other p apart same was

  pub found_passed : IsFound t gs old → AreWaiting new → IsFound t gs new
  found_passed h noted = record {
    granted = all_weaker _ _ (λ g there. within_trans (Some g.0) (mask_at old g.1) (mask_at new g.1) there (passing g.1)) gs h.granted;
    least = λ bounds are p.
        let before = h.least bounds (are.0, λ q there. are.1 q (still_known q there)) in
        bounded (known_at mid) (known_at new) (lists t here) m raised (bounds p) p
        (subst (λ o. IsWithin o (bounds p)) (sym (settled_mask (known_at old) (known_at mid) here settled p)) (before p))
        (λ listed. within_trans (Some m) (bounds here) (bounds p) (subst (λ o. IsWithin o (bounds here)) (sym mask) (before here)) (are.1 here (still_known here known_here) p listed));
    passed = λ p. passes_still p (waits_or_same (known_at mid) (known_at new) (lists t here) m raised p) (h.passed p);
    waiting = noted;
  }

-- ---- what a look adds

-- one fewer waits, or something was gained
pub further_by : (old new : Search) (taken mid : Found) (here : Reference) → ((p : Place) → mask_at mid p ≡ mask_at old.found p) → mid.waiting.items ≡ taken.waiting.items → old.found.waiting.items ≡ taken.waiting.items ++ here ∷ []
    → ((p : Place) → IsWithin (mask_at old.found p) (mask_at new.found p)) → HasGained mid new.found → IsFurther old new
further_by old new taken mid here same waiting taken_one stays (inl is) = record {
  stays = stays;
  gained = inr (let fewer = ap length taken_one ∙ length-append taken.waiting.items (here ∷ []) in let kept = ap (λ (f : Found). length f.waiting.items) is ∙ ap length waiting in omega (arith, fewer, kept));
}
further_by old new taken mid here same waiting taken_one stays (inr more) = record {
  stays = stays;
  gained = inl (more.0, λ is. more.1 (is ∙ sym (same more.0)));
}

pub further_itself_or : (old mid new : Search) → (mid ≡ old) ⊎ IsFurther old mid → IsFurther mid new → IsFurther old new
further_itself_or old mid new (inl is) h = subst (λ s. IsFurther s new) is h
further_itself_or old mid new (inr first) next = record {
  stays = λ p. within_trans (mask_at old.found p) (mask_at mid.found p) (mask_at new.found p) (first.stays p) (next.stays p);
  gained = both first.gained next.gained;
}
  where
    both : ((p : Place) × (mask_at mid.found p ≢ mask_at old.found p)) ⊎ (length mid.found.waiting.items < length old.found.waiting.items)
        → ((p : Place) × (mask_at new.found p ≢ mask_at mid.found p)) ⊎ (length new.found.waiting.items < length mid.found.waiting.items)
        → ((p : Place) × (mask_at new.found p ≢ mask_at old.found p)) ⊎ (length new.found.waiting.items < length old.found.waiting.items)
    both (inl a) b = inl (a.0, λ same. a.1 (within_both (mask_at mid.found a.0) (mask_at old.found a.0) (subst (IsWithin (mask_at mid.found a.0)) same (next.stays a.0)) (first.stays a.0)))
    both (inr a) (inl b) = inl (b.0, λ same. b.1 (within_both (mask_at new.found b.0) (mask_at mid.found b.0) (subst (λ o. IsWithin o (mask_at mid.found b.0)) (sym same) (first.stays b.0)) (next.stays b.0)))
    both (inr a) (inr b) = inr (omega arith)

-- ---- one pass, by what its calls make

module _ (t : Table) (gs : List (ℕ × Place)) (old new : Search) (taken mid : Found) (here : Reference) (h : IsFound t gs old.found) (popped : taken.known ≡ old.found.known) (took : old.found.waiting.items ≡ taken.waiting.items ++ here ∷ [])
    (settling : (q : Place) → known_at mid q ≡ settled_at (known_at taken) (place_of here) q) (left : mid.waiting ≡ taken.waiting) where
  settled : (q : Place) → known_at mid q ≡ settled_at (known_at old.found) (place_of here) q
  settled q = settling q ∙ ap (λ o. if same_place q (place_of here) then option_map (λ (k : ℕ × Bool). (k.0, false)) o else o) (known_same old.found taken popped q)

  noted : AreWaiting mid
  noted = take_waits old.found mid here (settled_waits (known_at old.found) (known_at mid) (place_of here) settled) (took ∙ ap (λ (rs : Vec Reference Global). rs.items ++ here ∷ []) (sym left)) h.waiting

  -- nothing was known of the one that was taken
  module _ (none : mask_at taken (place_of here) ≡ None) where
    still : (q : Place) → known_at old.found q ≡ known_at mid q
    still q = settle_none (known_at old.found) (place_of here) (unmasked (known_at old.found (place_of here)) (ap mask_in (sym (known_same old.found taken popped (place_of here))) ∙ none)) q ∙ sym (settled q)

    pub passed_none : IsFound t gs mid
    passed_none = found_alike t gs old.found mid h still noted

    pub further_none : new.found ≡ mid → IsFurther old new
    further_none is = further_by old new taken mid here (λ p. settled_mask (known_at old.found) (known_at mid) (place_of here) settled p) (ap (λ (rs : Vec Reference Global). rs.items) left) took
        (λ p. subst (λ (f : Found). IsWithin (mask_at old.found p) (mask_at f p)) (sym is) (subst (λ o. IsWithin (mask_at old.found p) (mask_in o)) (still p) (within_itself (mask_at old.found p)))) (inl is)

  -- it passes its mask on
  module _ (m : ℕ) (mask : Some m ≡ mask_at taken (place_of here)) (raised : (q : Place) → known_at new.found q ≡ raised_at (known_at mid) (lists t (place_of here)) m q) where
    masked : Some m ≡ mask_at old.found (place_of here)
    masked = mask ∙ ap mask_in (known_same old.found taken popped (place_of here))

    pub passed_on : (AreWaiting mid → AreWaiting new.found) → IsFound t gs new.found
    passed_on then_noted = found_passed t gs old.found mid new.found (place_of here) m masked settled raised h (then_noted noted)

    pub further_on : HasGained mid new.found → IsFurther old new
    further_on gained = further_by old new taken mid here (settled_mask (known_at old.found) (known_at mid) (place_of here) settled) (ap (λ (rs : Vec Reference Global). rs.items) left) took
        (passing t gs old.found mid new.found (place_of here) m masked settled raised) gained

-- ---- a call

-- what it counts is no part of what it knows
pub further_found : (old mid new : Search) → new.found ≡ mid.found → IsFurther old mid → IsFurther old new
further_found old mid new is h = record {
  stays = λ p. subst (λ (f : Found). IsWithin (mask_at old.found p) (mask_at f p)) (sym is) (h.stays p);
  gained = subst (λ (f : Found). ((p : Place) × (mask_at f p ≢ mask_at old.found p)) ⊎ (length f.waiting.items < length old.found.waiting.items)) (sym is) h.gained;
}

pub further_next : (old mid passed new : Search) → (mid ≡ old) ⊎ IsFurther old mid → IsFurther mid passed → new.found ≡ passed.found → IsFurther old new
further_next old mid passed new before pass is = further_found old passed new is (further_itself_or old mid passed before pass)

-- a search that ends was done, or got further
pub further_ended : (old now : Search) → (now ≡ old) ⊎ IsFurther old now → IsDone now → IsDone old ⊎ IsFurther old now
further_ended old now (inl is) done = inl (subst IsDone is done)
further_ended old now (inr h) done = inr h
