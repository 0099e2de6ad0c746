-- The places of a lane: what the first challenge of a search is, and what a write of one lane does to all of them.
use Rattle.std.proofs.Common.{◌≡◌, ℕ, zero, suc, ◌+◌, ◌-◌, ◌<◌, ◌≤◌, Bool, true, false, not, eqb, List, [], ◌∷◌, ◌++◌, length, get_or, set, take, drop, replicate, Option, Some, None, is_some, refl, sym, ap, ◌∙◌, inl, inr, arith}
use Rattle.std.specs.List.{AllByRecursion, filter, find, insert}
use Rattle.std.proofs.lemmas.Bool.{cases_eq, false_from_ne_true, eq-eqb, eqb-true, and_parts, false≢true}
use Rattle.std.proofs.lemmas.List.{get_or_read, get_or-replicate, get_or-set_same, get_or-set_other, set-get_or, set-set, length-set, drop_all, take-set, drop-set, take_more, take_more_set, append_assoc, take-append-drop}
use Rattle.std.proofs.lemmas.List.Edits.{insert_end}
use Rattle.std.proofs.lemmas.List.Elements.{filter_map-append}
use Rattle.hdl_slots.specs.declared.pending.Challenge.{Challenge}
use Rattle.hdl_slots.specs.Lanes.{LaneState, NumbersDiffer, fresh, last_eight, is_of, has_number}
use Rattle.hdl_slots.specs.Places.{places_of, at_place, contents, states, IsLane, AreLanes, IsFirst, Becomes}
use Rattle.hdl_slots.proofs.Lanes.{IsNot}

-- ---- the first challenge of a search

pub none_found : (test : Challenge → Bool) (places : List (Option Challenge)) → IsFirst test places None → find test (contents places) ≡ None
none_found test [] first = refl
none_found test (None ∷ places) first = none_found test places (λ k h. first (suc k) (omega arith))
none_found test (Some c ∷ places) first = rw (first 0 (omega arith)) (none_found test places (λ k h. first (suc k) (omega arith)))

pub none_dropped : (test : Challenge → Bool) (places : List (Option Challenge)) → IsFirst test places None
    → filter (λ c. not (test c)) (contents places) ≡ contents places
none_dropped test [] first = refl
none_dropped test (None ∷ places) first = none_dropped test places (λ k h. first (suc k) (omega arith))
none_dropped test (Some c ∷ places) first =
    rw (first 0 (omega arith)) (ap (λ (cs : List Challenge). c ∷ cs) (none_dropped test places (λ k h. first (suc k) (omega arith))))

pub first_found : (test : Challenge → Bool) (places : List (Option Challenge)) (i : ℕ) → IsFirst test places (Some i)
    → find test (contents places) ≡ get_or places i None
first_found test [] i first = absurd (omega (arith, first.0))
first_found test (None ∷ places) zero first = absurd (false≢true first.1)
first_found test (None ∷ places) (suc i) first =
    first_found test places i (omega (arith, first.0), first.1, λ k h. first.2 (suc k) (omega arith))
first_found test (Some c ∷ places) zero first = rw first.1 refl
first_found test (Some c ∷ places) (suc i) first =
    rw (first.2 0 (omega arith)) (first_found test places i (omega (arith, first.0), first.1, λ k h. first.2 (suc k) (omega arith)))

module _ (test : Challenge → Bool) (n : ℕ) (only : (c : Challenge) → test c ≡ true → c.number ≡ n) where
  fails : (c : Challenge) → IsNot n c → test c ≡ false
  fails c other = false_from_ne_true (test c) (λ passed. false≢true (sym other ∙ eq-eqb c.number n (only c passed)))

  all_kept : (cs : List Challenge) → AllByRecursion (IsNot n) cs → filter (λ c. not (test c)) cs ≡ cs
  all_kept [] others = refl
  all_kept (c ∷ cs) others = rw (fails c others.0) (ap (λ (t : List Challenge). c ∷ t) (all_kept cs others.1))

  -- no other challenge has the number of the first one, so all that pass are gone with it
  pub first_dropped : (places : List (Option Challenge)) (i : ℕ) → NumbersDiffer (contents places) → IsFirst test places (Some i)
      → contents (set places i None) ≡ filter (λ c. not (test c)) (contents places)
  first_dropped [] i differ first = absurd (omega (arith, first.0))
  first_dropped (None ∷ places) zero differ first = absurd (false≢true first.1)
  first_dropped (None ∷ places) (suc i) differ first =
      first_dropped places i differ (omega (arith, first.0), first.1, λ k h. first.2 (suc k) (omega arith))
  first_dropped (Some c ∷ places) zero differ first =
      let number : c.number ≡ n = only c first.1 in
      let others : AllByRecursion (IsNot n) (contents places) = rw number at differ.0 in
      rw first.1 (sym (all_kept (contents places) others))
  first_dropped (Some c ∷ places) (suc i) differ first =
      rw (first.2 0 (omega arith))
      (ap (λ (cs : List Challenge). c ∷ cs) (first_dropped places i differ.1 (omega (arith, first.0), first.1, λ k h. first.2 (suc k) (omega arith))))

-- ---- one lane among all

pub lane_there : (lanes : List (List (Option Challenge))) (lane : ℕ) → length (places_of lanes lane) ≡ 8 → lane < length lanes
lane_there [] lane eight = absurd (omega (arith, eight))
lane_there (places ∷ lanes) zero eight = omega arith
lane_there (places ∷ lanes) (suc lane) eight = omega (arith, lane_there lanes lane eight)

-- a write of a lane that was written before
pub rewritten_lane : (old now : List (List (Option Challenge))) (lane : ℕ) (places : List (Option Challenge))
    → length (places_of now lane) ≡ 8 → now ≡ set old lane (places_of now lane) → set now lane places ≡ set old lane (places_of (set now lane places) lane)
rewritten_lane old now lane places eight was =
    rw (get_or-set_same now lane places [] (lane_there now lane eight)) (ap (λ ls. set ls lane places) was ∙ set-set old lane (places_of now lane) places)

pub written_places : (now : List (List (Option Challenge))) (lane : ℕ) (places : List (Option Challenge)) → length (places_of now lane) ≡ 8
    → places_of (set now lane places) lane ≡ places
written_places now lane places eight = get_or-set_same now lane places [] (lane_there now lane eight)

pub becomes_then : (a b c : List (List (Option Challenge))) (lane : ℕ) (xs ys : List Challenge) → Becomes a b lane xs → Becomes b c lane ys → Becomes a c lane ys
becomes_then a b c lane xs ys first second = record {
  others = second.others ∙ ap (λ ls. set ls lane (places_of c lane)) first.others ∙ set-set a lane (places_of b lane) (places_of c lane);
  eight = second.eight;
  lane_is = second.lane_is;
}

state_at : (numbers : List ℕ) (lanes : List (List (Option Challenge))) (lane : ℕ) → lane < length numbers → lane < length lanes
    → get_or (states numbers lanes) lane fresh ≡ record { next = get_or numbers lane 0; challenges = contents (places_of lanes lane) }
state_at [] lanes lane h k = absurd (omega arith)
state_at (n ∷ ns) [] lane h k = absurd (omega arith)
state_at (n ∷ ns) (l ∷ ls) zero h k = refl
state_at (n ∷ ns) (l ∷ ls) (suc lane) h k = state_at ns ls lane (omega arith) (omega arith)

pub lane_state : (numbers : List ℕ) (lanes : List (List (Option Challenge))) (lane : ℕ) → AreLanes numbers lanes → lane < 64
    → get_or (states numbers lanes) lane fresh ≡ record { next = get_or numbers lane 0; challenges = contents (places_of lanes lane) }
lane_state numbers lanes lane are within = state_at numbers lanes lane (omega (arith, are.numbers_len)) (omega (arith, are.lanes_len))

pub number_read : (numbers : List ℕ) (lanes : List (List (Option Challenge))) (lane read : ℕ) → AreLanes numbers lanes → lane < 64 → read ≡ get_or numbers lane read
    → read ≡ get_or numbers lane 0
number_read numbers lanes lane read are within is = get_or_read numbers lane read (omega (arith, are.numbers_len)) is 0

pub states-set : (numbers : List ℕ) (lanes : List (List (Option Challenge))) (lane n : ℕ) (places : List (Option Challenge))
    → states (set numbers lane n) (set lanes lane places) ≡ set (states numbers lanes) lane record { next = n; challenges = contents places }
states-set [] lanes lane n places = refl
states-set (m ∷ ms) [] zero n places = refl
states-set (m ∷ ms) [] (suc lane) n places = refl
states-set (m ∷ ms) (l ∷ ls) zero n places = refl
states-set (m ∷ ms) (l ∷ ls) (suc lane) n places = ap (λ (t : List LaneState). record { next = m; challenges = contents l } ∷ t) (states-set ms ls lane n places)

module _ (numbers : List ℕ) (old new : List (List (Option Challenge))) (lane n : ℕ) (challenges : List Challenge) (becomes : Becomes old new lane challenges) where
  pub states_become : states (set numbers lane n) new ≡ set (states numbers old) lane record { next = n; challenges = challenges }
  states_become =
      ap (states (set numbers lane n)) becomes.others ∙ states-set numbers old lane n (places_of new lane)
      ∙ ap (λ cs. set (states numbers old) lane record { next = n; challenges = cs }) becomes.lane_is

  pub lanes_kept : AreLanes numbers old → NumbersDiffer challenges → AreLanes (set numbers lane n) new
  lanes_kept were differ = record {
    numbers_len = length-set numbers lane n ∙ were.numbers_len;
    lanes_len = ap length becomes.others ∙ length-set old lane (places_of new lane) ∙ were.lanes_len;
    each = λ l h. elim (cases_eq l lane) [
      | inl same ↦ rw same record { eight = becomes.eight; differ = rw becomes.lane_is differ }
      | inr other ↦ rw (ap (λ ls. places_of ls l) becomes.others ∙ get_or-set_other old lane l (places_of new lane) [] other) (were.each l h)
    ];
  }

-- ---- a challenge that is dropped

pub only_its_number : (n : ℕ) (c : Challenge) → has_number n c ≡ true → c.number ≡ n
only_its_number n c passed = eqb-true c.number n passed

pub only_of_number : (peer n : ℕ) (c : Challenge) → is_of peer n c ≡ true → c.number ≡ n
only_of_number peer n c passed = eqb-true c.number n (and_parts (eqb c.pending.peer peer) (eqb c.number n) passed).1

pub drops_none : (test : Challenge → Bool) (lanes : List (List (Option Challenge))) (lane : ℕ) → length (places_of lanes lane) ≡ 8
    → IsFirst test (places_of lanes lane) None → Becomes lanes lanes lane (filter (λ c. not (test c)) (contents (places_of lanes lane)))
drops_none test lanes lane eight first =
    record { others = sym (set-get_or lanes lane []); eight = eight; lane_is = sym (none_dropped test (places_of lanes lane) first) }

pub drops_first : (test : Challenge → Bool) (n : ℕ) → ((c : Challenge) → test c ≡ true → c.number ≡ n) → (old new : List (List (Option Challenge))) (lane i : ℕ)
    → IsLane (places_of old lane) → IsFirst test (places_of old lane) (Some i) → new ≡ set old lane (set (places_of old lane) i None)
    → Becomes old new lane (filter (λ c. not (test c)) (contents (places_of old lane)))
drops_first test n only old new lane i is_lane first wrote =
    let at_lane : places_of new lane ≡ set (places_of old lane) i None = ap (λ ls. places_of ls lane) wrote ∙ written_places old lane _ is_lane.eight in
    record {
      others = wrote ∙ ap (set old lane) (sym at_lane);
      eight = rw at_lane (length-set (places_of old lane) i None ∙ is_lane.eight);
      lane_is = rw at_lane (first_dropped test n only (places_of old lane) i is_lane.differ first);
    }

-- ---- a challenge that is put in

length-contents : (places : List (Option Challenge)) → length (contents places) ≤ length places
length-contents [] = omega arith
length-contents (None ∷ places) = omega (arith, length-contents places)
length-contents (Some c ∷ places) = omega (arith, length-contents places)

-- a challenge is on its way from the end to the front: what is moved belongs in front of this place, and the places behind it are taken
pub record IsMoving (old new : List (List (Option Challenge))) (lane : ℕ) (newest : Challenge) (place : ℕ) (moved : Option Challenge) : Type 0 where
  pub others : new ≡ set old lane (places_of new lane)
  pub eight : length (places_of new lane) ≡ 8
  pub order : insert (places_of new lane) place moved ≡ places_of old lane ++ Some newest ∷ []
  pub taken : length (contents (drop place (places_of new lane))) + place ≡ 8

pub moving_start : (lanes : List (List (Option Challenge))) (lane : ℕ) (newest : Challenge) → length (places_of lanes lane) ≡ 8
    → IsMoving lanes lanes lane newest 8 (Some newest)
moving_start lanes lane newest eight = record {
  others = sym (set-get_or lanes lane []);
  eight = eight;
  order = let at_end = insert_end (places_of lanes lane) (Some newest) in rw eight at at_end;
  taken = rw (drop_all 8 (places_of lanes lane) (omega (arith, eight))) refl;
}

pub moving_on : (old now next : List (List (Option Challenge))) (lane : ℕ) (newest : Challenge) (place to : ℕ) (moved : Option Challenge)
    → IsMoving old now lane newest place moved → is_some moved ≡ true → place ≡ to + 1 → place ≤ 8
    → next ≡ set now lane (set (places_of now lane) to moved) → IsMoving old next lane newest to (at_place now lane to)
moving_on old now next lane newest place to None m some is le wrote = absurd (false≢true some)
moving_on old now next lane newest place to (Some c) m some is le wrote =
    let ps = places_of now lane in
    let inside : to < length ps = omega (arith, m.eight) in
    let at_lane : places_of next lane ≡ set ps to (Some c) = ap (λ ls. places_of ls lane) wrote ∙ written_places now lane (set ps to (Some c)) m.eight in
    let was : insert ps (to + 1) (Some c) ≡ places_of old lane ++ Some newest ∷ [] = rw is at m.order in
    let behind : drop to (set ps to (Some c)) ≡ Some c ∷ drop (to + 1) ps = drop-set ps to (Some c) inside in
    let taken : length (contents (drop (to + 1) ps)) + (to + 1) ≡ 8 = rw is at m.taken in
    record {
      others = wrote ∙ rewritten_lane old now lane (set ps to (Some c)) m.eight m.others ∙ ap (λ ls. set old lane (places_of ls lane)) (sym wrote);
      eight = rw at_lane (length-set ps to (Some c) ∙ m.eight);
      order = rw (at_lane, take-set ps to (Some c), behind) (rw (take_more ps to None inside, append_assoc) at was);
      taken = rw (at_lane, behind) (omega (arith, taken));
    }

-- what is moved has come to the front, or an empty place took it in
pub moving_end : (old now : List (List (Option Challenge))) (lane : ℕ) (newest : Challenge) (place : ℕ) (moved : Option Challenge)
    → IsMoving old now lane newest place moved → (is_some moved ≡ true → place ≡ 0) → Becomes old now lane (last_eight (contents (places_of old lane) ++ newest ∷ []))
moving_end old now lane newest place None m stopped =
    let ps = places_of now lane in
    let all : contents (places_of old lane) ++ newest ∷ [] ≡ contents ps =
    sym (filter_map-append (λ p. p) (places_of old lane) (Some newest ∷ [])) ∙ sym (ap contents m.order) ∙ filter_map-append (λ p. p) (take place ps) (None ∷ drop place ps)
    ∙ sym (filter_map-append (λ p. p) (take place ps) (drop place ps)) ∙ ap contents (take-append-drop place ps) in
    let fits : length (contents ps) - 8 ≡ 0 = omega (arith, m.eight, length-contents ps) in
    record { others = m.others; eight = m.eight; lane_is = rw (all, fits) refl }
moving_end old now lane newest place (Some c) m stopped =
    let ps = places_of now lane in
    let front : place ≡ 0 = stopped refl in
    let order : Some c ∷ ps ≡ places_of old lane ++ Some newest ∷ [] = rw front at m.order in
    let taken : length (contents ps) + 0 ≡ 8 = rw front at m.taken in
    let all : contents (places_of old lane) ++ newest ∷ [] ≡ c ∷ contents ps =
    sym (filter_map-append (λ p. p) (places_of old lane) (Some newest ∷ [])) ∙ sym (ap contents order) in
    let one : suc (length (contents ps)) - 8 ≡ 1 = omega (arith, taken) in
    record { others = m.others; eight = m.eight; lane_is = rw (all, one) refl }

-- ---- a lane that is emptied

pub emptied_on : (old now next : List (List (Option Challenge))) (lane place : ℕ) → now ≡ set old lane (places_of now lane) → length (places_of now lane) ≡ 8
    → contents (take place (places_of now lane)) ≡ [] → place < 8 → next ≡ set now lane (set (places_of now lane) place None)
    → (next ≡ set old lane (places_of next lane)) × (length (places_of next lane) ≡ 8) × (contents (take (place + 1) (places_of next lane)) ≡ [])
emptied_on old now next lane place others eight empty inside wrote =
    let ps = places_of now lane in
    let at_lane : places_of next lane ≡ set ps place None = ap (λ ls. places_of ls lane) wrote ∙ written_places now lane (set ps place None) eight in
    let lt : place < length ps = omega (arith, eight) in (
      wrote ∙ rewritten_lane old now lane (set ps place None) eight others ∙ ap (λ ls. set old lane (places_of ls lane)) (sym wrote),
      rw at_lane (length-set ps place None ∙ eight),
      rw (at_lane, take_more_set ps place None lt) (filter_map-append (λ p. p) (take place ps) (None ∷ []) ∙ ap (λ (cs : List Challenge). cs ++ []) empty),
    )

-- ---- all lanes, as they are made

states-replicate : (count n : ℕ) (places : List (Option Challenge))
    → states (replicate count n) (replicate count places) ≡ replicate count record { next = n; challenges = contents places }
states-replicate zero n places = refl
states-replicate (suc count) n places = ap (λ (t : List LaneState). record { next = n; challenges = contents places } ∷ t) (states-replicate count n places)

pub new_states : states (replicate 64 1) (replicate 64 (replicate 8 None)) ≡ replicate 64 fresh
new_states = states-replicate 64 1 (replicate 8 None)

pub new_lanes : AreLanes (replicate 64 1) (replicate 64 (replicate 8 None))
new_lanes = record {
  numbers_len = refl;
  lanes_len = refl;
  each = λ lane h. rw (get_or-replicate {A = List (Option Challenge)} 64 lane (replicate 8 None) [] h) record { eight = refl; differ = tt };
}
