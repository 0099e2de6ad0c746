-- What is known of places, with a mask more.
use Rattle.std.proofs.Common.{◌≡◌, ◌≢◌, ℕ, List, [], ◌∷◌, ◌++◌, Bool, true, false, ◌||◌, cond, if◌then◌else◌, Option, Some, None, ◌⊎◌, inl, inr, option_map, is_some, refl, sym, ap, subst, ◌∙◌, IsTrue, IsSome, true≢false}
use Rattle.std.specs.BTreeMap.{BTreeMap, Updates, get_by}
use Rattle.std.specs.Map.{KeepsOthers}
use Rattle.hdl_value.specs.Place.{Place, place_cmp, same_place}
use Rattle.hdl_value.specs.Refs.{place_of}
use Rattle.hdl_value.specs.declared.admin.Reference.{Reference}
use Rattle.hdl_value.proofs.Places.{places_equal, place_itself}
use Rattle.hdl_reach.specs.declared.found.Found.{Found}
use Rattle.hdl_reach.specs.declared.found.Known.{Known}
use Rattle.hdl_reach.specs.Reach.{is_among}
use Rattle.hdl_reach.specs.Seen.{places, PlaceKey, place_at, key_cmp}
use Rattle.hdl_reach.specs.Found.{IsWithin, mark, known_at, mask_in, mask_at, waits, raised, raised_at, settled_at, AreWaiting, HasGained}
use Rattle.hdl_reach.proofs.Members.{among_append, among_front, among_last}
use Rattle.hdl_reach.proofs.Growth.{places_more}
use Rattle.hdl_reach.proofs.Orders.{within_itself, within_both, join_first, join_second, join_least, raised_mask, raised_waits, raised_again}

-- ---- a map with another value at a key, by places

pub updated : {X : Type 0} (old new : BTreeMap PlaceKey X) (k : PlaceKey) (w : Option X) → Updates key_cmp old new k w → (q : Place)
    → get_by (λ (j : PlaceKey). place_cmp q (place_at j)) new ≡ cond (same_place q (place_at k)) w (get_by (λ (j : PlaceKey). place_cmp q (place_at j)) old)
unfolding KeepsOthers
updated {X} old new k w h q =
    let at = λ (r : Place) (m : BTreeMap PlaceKey X). get_by (λ (j : PlaceKey). place_cmp r (place_at j)) m in
    elim (same_place q (place_at k)) as (λ b. same_place q (place_at k) ≡ b → at q new ≡ cond b w (at q old)) [
      | true ↦ λ is. subst (λ r. at r new ≡ w) (sym (places_equal q (place_at k) is)) h.1
      | false ↦ λ apart. h.3 (λ (j : PlaceKey). same_place q (place_at j))
          (λ x y is. ap (λ r. same_place r (place_at y)) (places_equal q (place_at x) is))
          (λ j is. subst (λ r. same_place q r ≡ false) (places_equal (place_at k) (place_at j) is) apart)
    ] refl

-- what is known of each place, once something else is known of one
pub known_more : (old new : Found) (k : PlaceKey) (w : Known) (p : Place) → place_at k ≡ p → Updates key_cmp old.known new.known k (Some w) → (q : Place) → known_at new q ≡ (if same_place q p then Some (mark w) else known_at old q)
known_more old new k w p at put q =
    ap (option_map mark) (updated old.known new.known k (Some w) put q) ∙ ap (λ r. option_map mark (cond (same_place q r) (Some w) (get_by (λ (j : PlaceKey). place_cmp q (place_at j)) old.known))) at ∙ by (same_place q p)
  where
    by : (b : Bool) → option_map mark (cond b (Some w) (get_by (λ (j : PlaceKey). place_cmp q (place_at j)) old.known)) ≡ (if b then Some (mark w) else known_at old q)
    by true = refl
    by false = refl

-- one place raised
pub raised_one : (K : Place → Option (ℕ × Bool)) (p : Place) (m : ℕ) (o : Option (ℕ × Bool)) → o ≡ Some (raised (K p) m) → (q : Place) → (if same_place q p then o else K q) ≡ raised_at K (p ∷ []) m q
raised_one K p m o is q = by (same_place q p) refl
  where
    by : (b : Bool) → same_place q p ≡ b → (if b then o else K q) ≡ (if b || false then Some (raised (K q) m) else K q)
    by true same = is ∙ ap (λ r. Some (raised (K r) m)) (sym (places_equal q p same))
    by false apart = refl

-- nothing is raised where that brings nothing new
pub raised_none : (K : Place → Option (ℕ × Bool)) (p : Place) (m : ℕ) → K p ≡ Some (raised (K p) m) → (q : Place) → K q ≡ raised_at K (p ∷ []) m q
raised_none K p m is q = by (same_place q p) refl
  where
    by : (b : Bool) → same_place q p ≡ b → K q ≡ (if b || false then Some (raised (K q) m) else K q)
    by true same = subst (λ r. K r ≡ Some (raised (K r) m)) (sym (places_equal q p same)) is
    by false apart = refl

-- these places, and one more
pub raised_more : (K : Place → Option (ℕ × Bool)) (ps : List Place) (p : Place) (m : ℕ) (q : Place) → raised_at (raised_at K ps m) (p ∷ []) m q ≡ raised_at K (ps ++ p ∷ []) m q
raised_more K ps p m q = by (same_place q p) (is_among q ps) ∙ ap (λ b. if b then Some (raised (K q) m) else K q) (sym (among_append ps (p ∷ []) q))
  where
    by : (a b : Bool) → (if a || false then Some (raised (if b then Some (raised (K q) m) else K q) m) else (if b then Some (raised (K q) m) else K q)) ≡ (if b || (a || false) then Some (raised (K q) m) else K q)
    by true true = ap Some (raised_again (K q) m)
    by true false = refl
    by false true = refl
    by false false = refl

pub raised_empty : (K : Place → Option (ℕ × Bool)) (m : ℕ) (q : Place) → K q ≡ raised_at K [] m q
raised_empty K m q = refl

-- the same of what is the same
pub raised_alike : (K L : Place → Option (ℕ × Bool)) (ps : List Place) (m : ℕ) → ((q : Place) → K q ≡ L q) → (q : Place) → raised_at K ps m q ≡ raised_at L ps m q
raised_alike K L ps m same q = ap (λ o. if is_among q ps then Some (raised o m) else o) (same q)

-- ---- what a mask more leaves and brings

module _ (K L : Place → Option (ℕ × Bool)) (ps : List Place) (m : ℕ) (is : (q : Place) → L q ≡ raised_at K ps m q) where
  pub grows : (q : Place) → IsWithin (mask_in (K q)) (mask_in (L q))
  grows q = subst (λ o. IsWithin (mask_in (K q)) (mask_in o)) (sym (is q)) (by (is_among q ps))
    where
      by : (b : Bool) → IsWithin (mask_in (K q)) (mask_in (if b then Some (raised (K q) m) else K q))
      by true = subst (λ n. IsWithin (mask_in (K q)) (Some n)) (sym (raised_mask (K q) m)) (join_first (mask_in (K q)) m)
      by false = within_itself (mask_in (K q))

  pub gives : (q : Place) → IsTrue (is_among q ps) → IsWithin (Some m) (mask_in (L q))
  gives q there = subst (λ o. IsWithin (Some m) (mask_in o)) (sym (is q)) (by (is_among q ps) there)
    where
      by : (b : Bool) → b ≡ true → IsWithin (Some m) (mask_in (if b then Some (raised (K q) m) else K q))
      by true h = subst (λ n. IsWithin (Some m) (Some n)) (sym (raised_mask (K q) m)) (join_second (mask_in (K q)) m)
      by false h = absurd (true≢false (sym h))

  pub bounded : (b : Option ℕ) (q : Place) → IsWithin (mask_in (K q)) b → (IsTrue (is_among q ps) → IsWithin (Some m) b) → IsWithin (mask_in (L q)) b
  bounded b q old more = subst (λ o. IsWithin (mask_in o) b) (sym (is q)) (by (is_among q ps) more)
    where
      by : (c : Bool) → (c ≡ true → IsWithin (Some m) b) → IsWithin (mask_in (if c then Some (raised (K q) m) else K q)) b
      by true here = subst (λ n. IsWithin (Some n) b) (sym (raised_mask (K q) m)) (join_least (mask_in (K q)) m b old (here refl))
      by false here = old

  pub waits_or_same : (q : Place) → IsTrue (waits (L q)) ⊎ (L q ≡ K q)
  waits_or_same q = subst (λ o. IsTrue (waits o) ⊎ (o ≡ K q)) (sym (is q)) (by (is_among q ps))
    where
      by : (b : Bool) → IsTrue (waits (if b then Some (raised (K q) m) else K q)) ⊎ ((if b then Some (raised (K q) m) else K q) ≡ K q)
      by true = raised_waits (K q) m
      by false = inr refl

  pub stays_known : (q : Place) → IsSome (K q) → IsSome (L q)
  stays_known q there = subst IsSome (sym (is q)) (by (is_among q ps))
    where
      by : (b : Bool) → IsSome (if b then Some (raised (K q) m) else K q)
      by true = refl
      by false = there

-- ---- a place that waits no more

module _ (K L : Place → Option (ℕ × Bool)) (here : Place) (is : (q : Place) → L q ≡ settled_at K here q) where
  pub settled_mask : (q : Place) → mask_in (L q) ≡ mask_in (K q)
  settled_mask q = ap mask_in (is q) ∙ by (same_place q here) (K q)
    where
      by : (b : Bool) (o : Option (ℕ × Bool)) → mask_in (if b then option_map (λ (k : ℕ × Bool). (k.0, false)) o else o) ≡ mask_in o
      by true None = refl
      by true (Some k) = refl
      by false o = refl

  pub settled_known : (q : Place) → IsSome (K q) → IsSome (L q)
  settled_known q there = subst IsSome (sym (is q)) (by (same_place q here) (K q) there)
    where
      by : (b : Bool) (o : Option (ℕ × Bool)) → IsSome o → IsSome (if b then option_map (λ (k : ℕ × Bool). (k.0, false)) o else o)
      by true None h = h
      by true (Some k) h = refl
      by false o h = h

  pub settled_other : (q : Place) → same_place q here ≡ false → L q ≡ K q
  settled_other q apart = is q ∙ ap (λ b. if b then option_map (λ (k : ℕ × Bool). (k.0, false)) (K q) else K q) apart

  pub settled_waits : (q : Place) → IsTrue (waits (L q)) → (same_place q here ≡ false) × IsTrue (waits (K q))
  settled_waits q h = by (same_place q here) (K q) (subst (λ o. IsTrue (waits o)) (is q) h)
    where
      by : (b : Bool) (o : Option (ℕ × Bool)) → IsTrue (waits (if b then option_map (λ (k : ℕ × Bool). (k.0, false)) o else o)) → (b ≡ false) × IsTrue (waits o)
      by true None h = absurd (true≢false (sym h))
      by true (Some k) h = absurd (true≢false (sym h))
      by false o h = (refl, h)

-- ---- those that wait are noted

pub notes_one : (old new : Found) (one : Reference) → ((q : Place) → (known_at new q ≡ known_at old q) ⊎ IsTrue (same_place q (place_of one))) → (IsTrue (waits (known_at old (place_of one))) ⊎ IsTrue (is_among (place_of one) (places new.waiting.items)))
    → ((q : Place) → IsTrue (is_among q (places old.waiting.items)) → IsTrue (is_among q (places new.waiting.items))) → AreWaiting old → AreWaiting new
notes_one old new one others here stays noted q h = elim (others q) [
  | inl same ↦ stays q (noted q (subst (λ o. IsTrue (waits o)) same h))
  | inr is ↦ subst (λ r. IsTrue (is_among r (places new.waiting.items))) (sym (places_equal q (place_of one) is)) (elim here [ inl waited ↦ stays (place_of one) (noted (place_of one) waited) | inr there ↦ there ])
]

-- a place was put behind those that wait, unless it did
pub waits_more : (b : Bool) (old new : List Reference) (one : Reference) → new ≡ (if b then old else old ++ one ∷ []) → (b ≡ true) ⊎ IsTrue (is_among (place_of one) (places new))
waits_more true old new one is = inl refl
waits_more false old new one is = inr (subst (λ rs. IsTrue (is_among (place_of one) (places rs))) (sym is) (subst (λ ps. IsTrue (is_among (place_of one) ps)) (sym (places_more old one)) (among_last (places old) (place_of one))))

pub waits_still : (b : Bool) (old new : List Reference) (one : Reference) → new ≡ (if b then old else old ++ one ∷ []) → (q : Place) → IsTrue (is_among q (places old)) → IsTrue (is_among q (places new))
waits_still true old new one is q h = subst (λ rs. IsTrue (is_among q (places rs))) (sym is) h
waits_still false old new one is q h = subst (λ rs. IsTrue (is_among q (places rs))) (sym is) (subst (λ ps. IsTrue (is_among q ps)) (sym (places_more old one)) (among_front (places old) (place_of one ∷ []) q h))

-- of one more, by what `wait` and a new entry make
pub raise_waits : (old new : Found) (one : Reference) (o : Option (ℕ × Bool)) → ((q : Place) → known_at new q ≡ (if same_place q (place_of one) then o else known_at old q))
    → new.waiting.items ≡ (if waits (known_at old (place_of one)) then old.waiting.items else old.waiting.items ++ one ∷ []) → AreWaiting old → AreWaiting new
raise_waits old new one o is noted =
    notes_one old new one (λ q. by q (same_place q (place_of one)) refl) (waits_more (waits (known_at old (place_of one))) old.waiting.items new.waiting.items one noted) (waits_still (waits (known_at old (place_of one))) old.waiting.items new.waiting.items one noted)
  where
    by : (q : Place) (b : Bool) → same_place q (place_of one) ≡ b → (known_at new q ≡ known_at old q) ⊎ IsTrue (same_place q (place_of one))
    by q true same = inr same
    by q false apart = inl (is q ∙ ap (λ b. if b then o else known_at old q) apart)

-- the one that came last was taken away, and waits no more
pub take_waits : (old new : Found) (here : Reference) → ((q : Place) → IsTrue (waits (known_at new q)) → (same_place q (place_of here) ≡ false) × IsTrue (waits (known_at old q)))
    → old.waiting.items ≡ new.waiting.items ++ here ∷ [] → AreWaiting old → AreWaiting new
take_waits old new here settled taken noted q h =
    let was = settled q h in
    let rest = places new.waiting.items in
    let there : IsTrue (is_among q (rest ++ place_of here ∷ [])) = subst (λ ps. IsTrue (is_among q ps)) (ap places taken ∙ places_more new.waiting.items here) (noted q was.1) in
    left (is_among q rest) (same_place q (place_of here)) was.0 (sym (among_append rest (place_of here ∷ []) q) ∙ there)
  where
    left : (a b : Bool) → b ≡ false → (a || (b || false)) ≡ true → a ≡ true
    left true b apart h = refl
    left false b apart h = sym (ap (λ c. c || false) apart) ∙ h

-- ---- gains

pub gains : (old new : Found) (p : Place) (before : Option Known) (after : Known) → option_map mark before ≡ known_at old p → option_map (λ (k : Known). k.mask.0) before ≢ Some after.mask.0 → known_at new p ≡ Some (mark after) → mask_at new p ≢ mask_at old p
gains old new p before after was other is same = other (by before ∙ ap mask_in was ∙ sym same ∙ ap mask_in is)
  where
    by : (o : Option Known) → option_map (λ (k : Known). k.mask.0) o ≡ mask_in (option_map mark o)
    by None = refl
    by (Some k) = refl

-- what was gained stays gained
pub gained_then : (old mid new : Found) → HasGained old mid → HasGained mid new → ((p : Place) → IsWithin (mask_at old p) (mask_at mid p)) → ((p : Place) → IsWithin (mask_at mid p) (mask_at new p)) → HasGained old new
gained_then old mid new (inl a) (inl b) first next = inl (b ∙ a)
gained_then old mid new (inl a) (inr b) first next = inr (b.0, λ same. b.1 (same ∙ ap (λ f. mask_at f b.0) (sym a)))
gained_then old mid new (inr a) b first next =
    inr (a.0, λ same. a.1 (within_both (mask_at mid a.0) (mask_at old a.0) (subst (IsWithin (mask_at mid a.0)) same (next a.0)) (first a.0)))

-- ---- by what the calls of a map make

pub raise_known : (old mid new : Found) (one : Reference) (k : PlaceKey) (before : Option Known) (after : Known) (m : ℕ) → place_at k ≡ place_of one → mid.known ≡ old.known → Updates key_cmp mid.known new.known k (Some after)
    → option_map mark before ≡ known_at old (place_of one) → mark after ≡ raised (option_map mark before) m → (q : Place) → known_at new q ≡ raised_at (known_at old) (place_of one ∷ []) m q
raise_known old mid new one k before after m at same put was is q =
    known_more old new k after (place_of one) at (subst (λ known. Updates key_cmp known new.known k (Some after)) same put) q
    ∙ raised_one (known_at old) (place_of one) m (Some (mark after)) (ap Some (is ∙ ap (λ o. raised o m) was)) q

-- the same, with what that leaves to be noted
pub raise_noted : (old mid new : Found) (one : Reference) (k : PlaceKey) (before : Option Known) (after : Known) → place_at k ≡ place_of one → mid.known ≡ old.known → Updates key_cmp mid.known new.known k (Some after)
    → option_map mark before ≡ known_at old (place_of one) → new.waiting.items ≡ (if waits (option_map mark before) then old.waiting.items else old.waiting.items ++ one ∷ []) → AreWaiting old → AreWaiting new
raise_noted old mid new one k before after at same put was noted =
    raise_waits old new one (Some (mark after)) (known_more old new k after (place_of one) at (subst (λ known. Updates key_cmp known new.known k (Some after)) same put))
    (noted ∙ ap (λ o. if waits o then old.waiting.items else old.waiting.items ++ one ∷ []) was)

pub raise_gains : (old mid new : Found) (one : Reference) (k : PlaceKey) (before : Option Known) (after : Known) → place_at k ≡ place_of one → mid.known ≡ old.known → Updates key_cmp mid.known new.known k (Some after)
    → option_map mark before ≡ known_at old (place_of one) → option_map (λ (x : Known). x.mask.0) before ≢ Some after.mask.0 → HasGained old new
raise_gains old mid new one k before after at same put was other =
    let here = known_more old new k after (place_of one) at (subst (λ known. Updates key_cmp known new.known k (Some after)) same put) (place_of one) in
    inr (place_of one, gains old new (place_of one) before after was other (here ∙ ap (λ b. if b then Some (mark after) else known_at old (place_of one)) (place_itself (place_of one))))

-- what was found of a key is what is known of its place
pub found_known : (f : Found) (one : Reference) (k : PlaceKey) (o : Option Known) → place_at k ≡ place_of one → o ≡ get_by (key_cmp k) f.known → option_map mark o ≡ known_at f (place_of one)
found_known f one k o at is = ap (option_map mark) is ∙ ap (known_at f) at

pub settle_known : (old new : Found) (here : Reference) (k : PlaceKey) (was after : Known) → place_at k ≡ place_of here → Updates key_cmp old.known new.known k (Some after) → option_map mark (Some was) ≡ known_at old (place_of here) → mark after ≡ (was.mask.0, false)
    → (q : Place) → known_at new q ≡ settled_at (known_at old) (place_of here) q
settle_known old new here k was after at put known is q = known_more old new k after (place_of here) at put q ∙ by (same_place q (place_of here)) refl
  where
    by : (b : Bool) → same_place q (place_of here) ≡ b → (if b then Some (mark after) else known_at old q) ≡ (if b then option_map (λ (x : ℕ × Bool). (x.0, false)) (known_at old q) else known_at old q)
    by true same = ap Some is ∙ ap (option_map (λ (x : ℕ × Bool). (x.0, false))) (known ∙ ap (known_at old) (sym (places_equal q (place_of here) same)))
    by false apart = refl

pub settle_none : (K : Place → Option (ℕ × Bool)) (p : Place) → K p ≡ None → (q : Place) → K q ≡ settled_at K p q
settle_none K p none q = by (same_place q p) refl
  where
    by : (b : Bool) → same_place q p ≡ b → K q ≡ (if b then option_map (λ (x : ℕ × Bool). (x.0, false)) (K q) else K q)
    by true same = let is : K q ≡ None = ap K (places_equal q p same) ∙ none in is ∙ ap (option_map (λ (x : ℕ × Bool). (x.0, false))) (sym is)
    by false apart = refl

pub known_same : (a b : Found) → b.known ≡ a.known → (q : Place) → known_at b q ≡ known_at a q
known_same a b is q = ap (λ known. option_map mark (get_by (λ (k : PlaceKey). place_cmp q (place_at k)) known)) is

pub unmasked : (o : Option (ℕ × Bool)) → mask_in o ≡ None → o ≡ None
unmasked None h = refl
unmasked (Some k) h = absurd (let no : is_some (Some k.0) ≡ false = ap is_some h in true≢false no)

-- a loop that raises place by place
pub raised_next : (K L M : Place → Option (ℕ × Bool)) (ps more : List Place) (p : Place) (m : ℕ) → ((q : Place) → L q ≡ raised_at K ps m q) → ((q : Place) → M q ≡ raised_at L (p ∷ []) m q) → more ≡ ps ++ p ∷ [] → (q : Place) → M q ≡ raised_at K more m q
raised_next K L M ps more p m before step is q = step q ∙ raised_alike L (raised_at K ps m) (p ∷ []) m before q ∙ raised_more K ps p m q ∙ ap (λ rs. raised_at K rs m q) (sym is)
