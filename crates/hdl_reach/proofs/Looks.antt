-- A search comes to an end: each look leaves fewer.
use Rattle.std.proofs.Common.{◌≡◌, ◌≢◌, ◌≤◌, ◌<◌, ◌⊎◌, inl, inr, ℕ, ◌+◌, length, length-append, List, [], ◌∷◌, ◌++◌, map, Bool, true, false, cond, if◌then◌else◌, Option, Some, None, option_map, refl, sym, ap, subst, ◌∙◌, arith, IsTrue, true≢false}
use Rattle.std.specs.List.{flat_map, AllByRecursion}
use Rattle.std.specs.BTreeMap.{Updates}
use Rattle.std.specs.Ordering.{eq_by_cmp}
use Rattle.std.specs.FinMap as map
use Rattle.std.specs.Int.Bits.{or_self}
use Rattle.std.proofs.lemmas.Nat.{le_or_l}
use Rattle.hdl_value.specs.Place.{Place, place_cmp, same_place}
use Rattle.hdl_value.specs.Refs.{listed_places, place_of}
use Rattle.hdl_value.specs.declared.admin.Reference.{Reference}
use Rattle.hdl_value.specs.declared.value.Value.{Value}
use Rattle.hdl_value.proofs.Places.{places_equal, place_itself}
use Rattle.hdl_rows.specs.Table.{Table, values_of}
use Rattle.hdl_reach.specs.declared.found.Found.{Found}
use Rattle.hdl_reach.specs.declared.found.Known.{Known}
use Rattle.hdl_reach.specs.declared.search.Search.{Search}
use Rattle.hdl_reach.specs.Reach.{is_among, listed_in, lists, grants}
use Rattle.hdl_reach.specs.Seen.{PlaceKey, place_at, key_cmp}
use Rattle.hdl_reach.specs.Found.{IsWithin, mark, known_at, mask_in, mask_at, raised_at, settled_at}
use Rattle.hdl_reach.specs.Search.{handle_of, IsFound, IsSearch, IsDone}
use Rattle.hdl_reach.specs.Looks.{all_bits, all_places, lack, lacks, looks, looks_left, AddsNone}
use Rattle.hdl_reach.proofs.Members.{either_true, all_weaker, each_among, among_front, among_back}
use Rattle.hdl_reach.proofs.Orders.{within_trans, join_first, join_second}
use Rattle.hdl_reach.proofs.Raises.{grows, gains, known_more, known_same, settled_mask}
use Rattle.hdl_reach.proofs.Steps.{all_front, all_last}

-- ---- what masks lack

lack_less : (all : ℕ) (a b : Option ℕ) → IsWithin a b → lack all b ≤ lack all a
lack_less all None None h = omega arith
lack_less all None (Some b) h = omega arith
lack_less all (Some a) None h = absurd h
lack_less all (Some a) (Some b) h = let low = le_or_l a b in omega (arith, low, h)

lack_falls : (all : ℕ) (a b : Option ℕ) → IsWithin a b → b ≢ a → IsWithin b (Some all) → lack all b < lack all a
lack_falls all None None h other within = absurd (other refl)
lack_falls all None (Some b) h other within = omega arith
lack_falls all (Some a) None h other within = absurd h
lack_falls all (Some a) (Some b) h other within =
    let low = le_or_l a b in
    let high = le_or_l b all in
    let apart : b ≢ a = λ is. other (ap Some is) in
    omega (arith, low, h, high, within, apart)

lacks_less : (all : ℕ) (ps : List Place) (old new : Found) → ((p : Place) → IsWithin (mask_at old p) (mask_at new p)) → lacks all ps new ≤ lacks all ps old
lacks_less all [] old new grow = omega arith
lacks_less all (p ∷ ps) old new grow =
    let first = lack_less all (mask_at old p) (mask_at new p) (grow p) in
    let rest = lacks_less all ps old new grow in
    omega (arith, first, rest)

lacks_fall : (all : ℕ) (ps : List Place) (old new : Found) (q : Place) → ((p : Place) → IsWithin (mask_at old p) (mask_at new p)) → ((p : Place) → IsWithin (mask_at new p) (Some all)) → mask_at new q ≢ mask_at old q → IsTrue (is_among q ps)
    → lacks all ps new < lacks all ps old
lacks_fall all [] old new q grow within other there = absurd (true≢false (sym there))
lacks_fall all (p ∷ ps) old new q grow within other there = elim (either_true (same_place q p) (is_among q ps) there) [
  | inl here ↦
      let apart = subst (λ r. mask_at new r ≢ mask_at old r) (places_equal q p here) other in
      let first = lack_falls all (mask_at old p) (mask_at new p) (grow p) apart (within p) in
      let rest = lacks_less all ps old new grow in
      omega (arith, first, rest)
  | inr later ↦
      let first = lack_less all (mask_at old p) (mask_at new p) (grow p) in
      let rest = lacks_fall all ps old new q grow within other later in
      omega (arith, first, rest)
]

lacks_same : (all : ℕ) (ps : List Place) (old new : Found) → ((p : Place) → mask_at new p ≡ mask_at old p) → lacks all ps new ≡ lacks all ps old
lacks_same all [] old new same = refl
lacks_same all (p ∷ ps) old new same =
    let first = ap (lack all) (same p) in
    let rest = lacks_same all ps old new same in
    omega (arith, first, rest)

-- ---- a mask more

one_more : (b : Bool) (old new : List Reference) (one : Reference) → new ≡ (if b then old else old ++ one ∷ []) → length new ≤ length old + 1
one_more true old new one is = let same = ap length is in omega (arith, same)
one_more false old new one is = let more = ap length is ∙ length-append old (one ∷ []) in omega (arith, more)

pub adds_itself : (f : Found) (more : List Place) → AddsNone f f more
adds_itself f more = λ all ps among within. omega arith

-- a place whose mask rose, and which waits now
rose : (old new : Found) (one : Reference) (m : ℕ) (b : Bool) → ((q : Place) → known_at new q ≡ raised_at (known_at old) (place_of one ∷ []) m q) → mask_at new (place_of one) ≢ mask_at old (place_of one)
    → new.waiting.items ≡ (if b then old.waiting.items else old.waiting.items ++ one ∷ []) → AddsNone old new (place_of one ∷ [])
rose old new one m b is other waiting = λ all ps among within.
    let fall = lacks_fall all ps old new (place_of one) (grows (known_at old) (known_at new) (place_of one ∷ []) m is) within other among.0 in
    let one_longer = one_more b old.waiting.items new.waiting.items one waiting in
    omega (arith, fall, one_longer)

-- the same by what the calls of a map make
pub raise_adds : (old mid new : Found) (one : Reference) (k : PlaceKey) (before : Option Known) (after : Known) (m : ℕ) (b : Bool) → place_at k ≡ place_of one → mid.known ≡ old.known → Updates key_cmp mid.known new.known k (Some after)
    → option_map mark before ≡ known_at old (place_of one) → option_map (λ (x : Known). x.mask.0) before ≢ Some after.mask.0 → ((q : Place) → known_at new q ≡ raised_at (known_at old) (place_of one ∷ []) m q)
    → new.waiting.items ≡ (if b then old.waiting.items else old.waiting.items ++ one ∷ []) → AddsNone old new (place_of one ∷ [])
raise_adds old mid new one k before after m b at same put was other is waiting =
    let here = known_more old new k after (place_of one) at (subst (λ known. Updates key_cmp known new.known k (Some after)) same put) (place_of one) in
    let marked = here ∙ ap (λ c. if c then Some (mark after) else known_at old (place_of one)) (place_itself (place_of one)) in
    rose old new one m b is (gains old new (place_of one) before after was other marked) waiting

-- place by place
pub adds_next : (old mid new : Found) (ps more : List Place) (p : Place) → AddsNone old mid ps → AddsNone mid new (p ∷ []) → ((q : Place) → IsWithin (mask_at mid q) (mask_at new q)) → more ≡ ps ++ p ∷ [] → AddsNone old new more
adds_next old mid new ps more p first next grow is = λ all qs among within.
    let both = subst (AllByRecursion (λ q. IsTrue (is_among q qs))) is among in
    let before = first all qs (all_front (λ q. IsTrue (is_among q qs)) ps (p ∷ []) both) (λ q. within_trans (mask_at mid q) (mask_at new q) (Some all) (grow q) (within q)) in
    let after = next all qs (all_last (λ q. IsTrue (is_among q qs)) ps p both, tt) within in
    omega (arith, before, after)

-- ---- what is found is within all grants, at places that are granted or listed

bits_within : (gs : List (ℕ × Place)) → AllByRecursion (λ g. IsWithin (Some g.0) (Some (all_bits gs))) gs
bits_within [] = tt
bits_within (g ∷ gs) =
    (join_first (Some g.0) (all_bits gs), all_weaker _ _ (λ x h. within_trans (Some x.0) (Some (all_bits gs)) (Some (all_bits (g ∷ gs))) h (join_second (Some g.0) (all_bits gs))) gs (bits_within gs))

found_within : (t : Table) (gs : List (ℕ × Place)) (f : Found) → IsFound t gs f → (p : Place) → IsWithin (mask_at f p) (Some (all_bits gs))
found_within t gs f h p = h.least (λ q. Some (all_bits gs)) (bits_within gs, λ q there r listed. or_self (all_bits gs)) p

in_entries : (es : List (Place × Value)) (p q : Place) → IsTrue (is_among q (listed_in (map.find place_cmp p es))) → IsTrue (is_among q (flat_map (λ (e : Place × Value). listed_places e.1) es))
in_entries [] p q h = h
in_entries (e ∷ es) p q h =
    elim (eq_by_cmp place_cmp p e.0) as (λ b. IsTrue (is_among q (listed_in (cond b (Some e.1) (map.find place_cmp p es)))) → IsTrue (is_among q (listed_places e.1 ++ flat_map (λ (x : Place × Value). listed_places x.1) es))) [
      | true ↦ λ k. among_front (listed_places e.1) _ q k
      | false ↦ λ k. among_back (listed_places e.1) _ q (in_entries es p q k)
    ] h

listed_among : (t : Table) (gs : List (ℕ × Place)) (p : Place) → AllByRecursion (λ q. IsTrue (is_among q (all_places t gs))) (lists t p)
listed_among t gs p = each_among _ (lists t p) (λ q here. among_back (map (λ (g : ℕ × Place). g.1) gs) _ q (in_entries (map.entries t.values) p q (subst (λ o. IsTrue (is_among q (listed_in o))) (map.get-entries t.values p) here)))

-- ---- one pass

module _ (t : Table) (old new : Search) (taken mid : Found) (here : Reference) (popped : taken.known ≡ old.found.known) (took : old.found.waiting.items ≡ taken.waiting.items ++ here ∷ [])
    (settling : (q : Place) → known_at mid q ≡ settled_at (known_at taken) (place_of here) q) (left : mid.waiting ≡ taken.waiting) (handle : handle_of new ≡ handle_of old) where
  abbrev gs : List (ℕ × Place)
  gs = grants (values_of t (handle_of old))

  same_masks : (p : Place) → mask_at mid p ≡ mask_at old.found p
  same_masks p = settled_mask (known_at taken) (known_at mid) (place_of here) settling p ∙ ap mask_in (known_same old.found taken popped p)

  one_fewer : (all : ℕ) (ps : List Place) → looks all ps mid < looks all ps old.found
  one_fewer all ps =
      let lack = lacks_same all ps old.found mid same_masks in
      let fewer = ap length took ∙ length-append taken.waiting.items (here ∷ []) in
      let kept = ap (λ rs. length rs.items) left in
      omega (arith, lack, fewer, kept)

  by_handle : looks (all_bits gs) (all_places t gs) new.found < looks_left t old → looks_left t new < looks_left t old
  by_handle less = subst (λ h. looks (all_bits (grants (values_of t h))) (all_places t (grants (values_of t h))) new.found < looks_left t old) (sym handle) less

  pub left_none : new.found ≡ mid → looks_left t new < looks_left t old
  left_none is = by_handle (subst (λ f. looks (all_bits gs) (all_places t gs) f < looks_left t old) (sym is) (one_fewer (all_bits gs) (all_places t gs)))

  pub left_on : IsSearch t new → AddsNone mid new.found (lists t (place_of here)) → looks_left t new < looks_left t old
  left_on found adds =
      let found_here = subst (λ h. IsFound t (grants (values_of t h)) new.found) handle found in
      let same = adds (all_bits gs) (all_places t gs) (listed_among t gs (place_of here)) (found_within t gs new.found found_here) in
      let less = one_fewer (all_bits gs) (all_places t gs) in
      by_handle (omega (arith, same, less))

-- ---- a call

pub left_next : (t : Table) (old mid new : Search) → (mid ≡ old) ⊎ (looks_left t mid < looks_left t old) → looks_left t new < looks_left t mid → looks_left t new < looks_left t old
left_next t old mid new (inl is) less = subst (λ s. looks_left t new < looks_left t s) is less
left_next t old mid new (inr first) less = omega (arith, first, less)

pub left_ended : (t : Table) (old now : Search) → (now ≡ old) ⊎ (looks_left t now < looks_left t old) → IsDone now → IsDone old ⊎ (looks_left t now < looks_left t old)
left_ended t old now (inl is) done = inl (subst IsDone is done)
left_ended t old now (inr h) done = inr h
