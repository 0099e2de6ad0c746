-- What one lane gives and is given, event by event.
use Rattle.std.proofs.Common.{◌≡◌, List, [], ◌∷◌, ◌++◌, Bool, true, false, inl, inr, refl, sym, ap, ◌∙◌, subst, true≢false}
use Rattle.std.proofs.lemmas.List.{append-nil, append_assoc, map-append}
use Rattle.std.proofs.lemmas.List.Elements.{filter_map-append}
use Rattle.hdl_lanes.specs.Lane.{put_into, taken_from, IsFrontOf, SameInlet, SameOutlet}
use Rattle.hdl_lanes.specs.declared.outlet.Outlet.{Outlet}
use Rattle.hdl_events.specs.declared.What.{What}
use Rattle.hdl_events.specs.declared.Event.{Event}
use Rattle.hdl_events.specs.declared.Outcome.{Outcome}
use Rattle.hdl_laws.specs.Worlds.{World}
use Rattle.hdl_laws.specs.Steps.{Turn}
use Rattle.hdl_laws.specs.Runs.{HasRun, HasStep, is_busy}
use Rattle.hdl_laws.proofs.Restriction.{answer_calm}
use Rattle.hdl_laws.specs.Laws.{JoinsRuns}
use Rattle.hdl_workers.specs.declared.item.Item.{Item}
use Rattle.hdl_workers.specs.declared.ends.LaneEnds.{LaneEnds}
use Rattle.hdl_serve.specs.Served.{event_of, events_in, items_of}
use Rattle.hdl_serve.specs.Rounds.{AreWithEnd, Passes, PutsNoBusy, Answers, Serves, on_lane}
use Rattle.hdl_workers.proofs.Same.{same_inlet, same_outlet, itself_inlet, itself_outlet}

abbrev IsSameLane : LaneEnds → LaneEnds → Type 0
IsSameLane a b = (b.lane ≡ a.lane) × SameOutlet a.items b.items × SameInlet a.outcomes b.outcomes

-- an item was taken from a lane that hadn't ended
took : (now : Bool) (a b : LaneEnds) (item : Item) (whats : List What) → IsSameLane a b → put_into b.outcomes ≡ put_into a.outcomes → taken_from b.items ≡ taken_from a.items ++ item ∷ []
    → events_in (item ∷ []) ≡ whats → ((events : List Item) → AreWithEnd now (events ++ items_of whats) (events ++ item ∷ [])) → Passes false now whats [] a b
took now a b item whats same put taken is with_end = record {
  lane = same.0;
  outlet = same.1;
  inlet = same.2;
  taken = ap events_in taken ∙ filter_map-append event_of (taken_from a.items) (item ∷ []) ∙ ap (λ ws. events_in (taken_from a.items) ++ ws) is;
  with_end = λ events before. subst (λ items. AreWithEnd now (events ++ items_of whats) items) (sym (taken ∙ ap (λ items. items ++ item ∷ []) before)) (with_end events);
  put = put ∙ sym (append-nil _);
}

-- it was an event
pub took_event : (was : Bool) (a b : LaneEnds) (item : Item) (what : What) → was ≡ false → IsSameLane a b → put_into b.outcomes ≡ put_into a.outcomes
    → taken_from b.items ≡ taken_from a.items ++ item ∷ [] → item ≡ Item.Event what → Passes was was (what ∷ []) [] a b
took_event was a b item what going same put taken is =
    subst (λ f. Passes f f (what ∷ []) [] a b) (sym going) (took false a b item (what ∷ []) same put taken (ap (λ i. events_in (i ∷ [])) is) (λ events. ap (λ i. events ++ i ∷ []) is))

-- it was End
pub took_end : (was : Bool) (a b : LaneEnds) (item : Item) → was ≡ false → IsSameLane a b → put_into b.outcomes ≡ put_into a.outcomes
    → taken_from b.items ≡ taken_from a.items ++ item ∷ [] → item ≡ Item.End → Passes was true [] [] a b
took_end was a b item going same put taken is =
    subst (λ f. Passes f true [] [] a b) (sym going)
    (took true a b item [] same put taken (ap (λ i. events_in (i ∷ [])) is) (λ events. (λ i. sym (append-nil events) i ++ is i ∷ [])))

pub passes_then : (f g h : Bool) (xs ys : List What) (os qs : List Outcome) (a b c : LaneEnds) → Passes f g xs os a b → Passes g h ys qs b c → Passes f h (xs ++ ys) (os ++ qs) a c
passes_then f g h xs ys os qs a b c p q = record {
  lane = q.lane ∙ p.lane;
  outlet = same_outlet a.items b.items c.items p.outlet q.outlet;
  inlet = same_inlet a.outcomes b.outcomes c.outcomes p.inlet q.inlet;
  taken = q.taken ∙ ap (λ ws. ws ++ ys) p.taken ∙ append_assoc _ xs ys;
  with_end = λ events before.
      subst (λ items. AreWithEnd h items (taken_from c.items)) (append_assoc events (items_of xs) (items_of ys) ∙ ap (λ items. events ++ items) (sym (map-append (λ what. Item.Event what) xs ys)))
      (q.with_end (events ++ items_of xs) (p.with_end events before));
  put = q.put ∙ ap (λ l. l ++ qs) p.put ∙ append_assoc _ os qs;
}

-- nothing was taken
pub passes_none : (f : Bool) (a b : LaneEnds) → IsSameLane a b → put_into b.outcomes ≡ put_into a.outcomes → taken_from b.items ≡ taken_from a.items → Passes f f [] [] a b
passes_none f a b same put taken = record {
  lane = same.0;
  outlet = same.1;
  inlet = same.2;
  taken = ap events_in taken ∙ sym (append-nil _);
  with_end = λ events before. subst (λ items. AreWithEnd f items (taken_from b.items)) (sym (append-nil events)) (subst (λ items. AreWithEnd f events items) (sym taken) before);
  put = put ∙ sym (append-nil _);
}

pub passes_nothing : (f : Bool) (a : LaneEnds) → Passes f f [] [] a a
passes_nothing f a = passes_none f a a (refl, itself_outlet a.items, itself_inlet a.outcomes) refl refl

-- an outcome was put
given : (o : Outcome) (f : Bool) (a b : LaneEnds) → Answers o a b → Passes f f [] (o ∷ []) a b
given o f a b t = record {
  lane = t.lane;
  outlet = t.outlet;
  inlet = t.inlet;
  taken = ap events_in t.taken ∙ sym (append-nil _);
  with_end = λ events before. subst (λ items. AreWithEnd f items (taken_from b.items)) (sym (append-nil events)) (subst (λ items. AreWithEnd f events items) (sym t.taken) before);
  put = t.put;
}

-- ---- with the service

-- nothing was served
pub serves_none : (f g : Bool) (w : World) (a b : LaneEnds) → Passes f g [] [] a b → Serves f g w w a b
serves_none f g w a b p = record { whats = []; outcomes = []; run = ([], tt, refl, refl, refl); passes = p }

-- one event was
pub serves_one : (f g : Bool) (w new : World) (what : What) (o : Outcome) (a b c : LaneEnds) → Passes f g (what ∷ []) [] a b → Answers o b c → HasStep w (record { lane = a.lane; what = what }) o new
    → Serves f g w new a c
serves_one f g w new what o a b c p t step = record {
  whats = what ∷ [];
  outcomes = o ∷ [];
  run = (step.0 ∷ [], (step.1, tt), ap (λ e. e ∷ []) step.2, ap (λ q. q ∷ []) step.3, step.4);
  passes = passes_then f g g (what ∷ []) [] [] (o ∷ []) a b c p (given o g b c t);
}

pub serves_then : JoinsRuns → (f g h : Bool) (w mid new : World) (a b c : LaneEnds) → Serves f g w mid a b → Serves g h mid new b c → Serves f h w new a c
serves_then joins f g h w mid new a b c p q =
    let lanes : on_lane a.lane p.whats ++ on_lane b.lane q.whats ≡ on_lane a.lane (p.whats ++ q.whats)
    = ap (λ n. on_lane a.lane p.whats ++ on_lane n q.whats) p.passes.lane ∙ sym (map-append (λ (what : What). record { lane = a.lane; what = what }) p.whats q.whats) in
    record {
      whats = p.whats ++ q.whats;
      outcomes = p.outcomes ++ q.outcomes;
      run = subst (λ es. HasRun w es (p.outcomes ++ q.outcomes) new) lanes
          (joins w mid new (on_lane a.lane p.whats) (on_lane b.lane q.whats) p.outcomes q.outcomes p.run q.run);
      passes = passes_then f g h p.whats q.whats p.outcomes q.outcomes a b c p.passes q.passes;
    }

-- ---- an event that stays

-- a busy step leaves the world as it was
busy_stays : (w new : World) (e : Event) (o : Outcome) → HasStep w e o new → is_busy o ≡ true → w ≡ new
busy_stays w new e o step busy = elim step.1 [
  | inl answer ↦ absurd (true≢false (sym busy ∙ sym (ap is_busy step.3) ∙ answer_calm w step.0 answer))
  | inr is ↦ sym (ap (λ (t : Turn). t.after) is.busy) ∙ step.4
]

-- a busy step whose event stays
pub serves_kept : (f : Bool) (w new : World) (e : Event) (o : Outcome) (a : LaneEnds) → HasStep w e o new → is_busy o ≡ true → Serves f f w new a a
serves_kept f w new e o a step busy = subst (λ x. Serves f f w x a a) (busy_stays w new e o step busy) (serves_none f f w a a (passes_nothing f a))

-- what stands first is one
pub front_is_one : (x y : Item) (items : Outlet Item) → IsFrontOf x items → IsFrontOf y items → x ≡ y
front_is_one x y items a b = let both : x ∷ a.0 ≡ y ∷ b.0 = sym a.1 ∙ b.1 in cc

-- nothing passed, and then what did
pub passes_first : (f g : Bool) (whats : List What) (outcomes : List Outcome) (a b c : LaneEnds) → Passes f f [] [] a b → Passes f g whats outcomes b c → Passes f g whats outcomes a c
passes_first f g whats outcomes a b c p q = passes_then f f g [] whats [] outcomes a b c p q

serves_later : (f g : Bool) (w new : World) (a b c : LaneEnds) → Passes f f [] [] a b → Serves f g w new b c → Serves f g w new a c
serves_later f g w new a b c p s = record {
  whats = s.whats;
  outcomes = s.outcomes;
  run = subst (λ n. HasRun w (on_lane n s.whats) s.outcomes new) p.lane s.run;
  passes = passes_first f g s.whats s.outcomes a b c p s.passes;
}

-- of a lane that hadn't ended
pub serves_going : (f : Bool) (w new : World) (a b c : LaneEnds) → f ≡ false → Passes false false [] [] a b → Serves false false w new b c → Serves f f w new a c
serves_going f w new a b c going p s = subst (λ g. Serves g g w new a c) (sym going) (serves_later false false w new a b c p s)

-- the item that stood first was taken
pub took_front : (a b : LaneEnds) (x item : Item) → IsFrontOf x a.items → IsFrontOf item a.items → b.lane ≡ a.lane → SameOutlet a.items b.items → b.outcomes ≡ a.outcomes → taken_from b.items ≡ taken_from a.items ++ item ∷ []
    → IsSameLane a b × (put_into b.outcomes ≡ put_into a.outcomes) × (item ≡ x)
took_front a b x item first front lane same put taken =
    ((lane, same, subst (SameInlet a.outcomes) (sym put) (itself_inlet a.outcomes)), ap put_into put, front_is_one item x a.items front first)

-- it was an event
pub took_first : (a b : LaneEnds) (what : What) (item : Item) → IsFrontOf (Item.Event what) a.items → IsFrontOf item a.items → b.lane ≡ a.lane → SameOutlet a.items b.items → b.outcomes ≡ a.outcomes
    → taken_from b.items ≡ taken_from a.items ++ item ∷ [] → Passes false false (what ∷ []) [] a b
took_first a b what item first front lane same put taken =
    let it = took_front a b (Item.Event what) item first front lane same put taken in
    took_event false a b item what refl it.0 it.1 taken it.2

-- it was End
pub took_last : (was : Bool) (a b : LaneEnds) (item : Item) → was ≡ false → IsFrontOf Item.End a.items → IsFrontOf item a.items → b.lane ≡ a.lane → SameOutlet a.items b.items → b.outcomes ≡ a.outcomes
    → taken_from b.items ≡ taken_from a.items ++ item ∷ [] → Passes was true [] [] a b
took_last was a b item going first front lane same put taken =
    let it = took_front a b Item.End item first front lane same put taken in
    took_end was a b item going it.0 it.1 taken it.2

-- ---- no Busy is put

pub puts_nothing : (a : LaneEnds) → PutsNoBusy a a
puts_nothing a = ([], sym (append-nil _), tt)

pub puts_one : (o : Outcome) (a b : LaneEnds) → Answers o a b → is_busy o ≡ false → PutsNoBusy a b
puts_one o a b t calm = (o ∷ [], t.put, (calm, tt))

pub puts_none : (f g : Bool) (a b : LaneEnds) → Passes f g [] [] a b → PutsNoBusy a b
puts_none f g a b p = ([], p.put, tt)

pub puts_later : (f g : Bool) (a b c : LaneEnds) → Passes f g [] [] a b → PutsNoBusy b c → PutsNoBusy a c
puts_later f g a b c p q = (q.0, q.1 ∙ ap (λ os. os ++ q.0) (p.put ∙ append-nil _), q.2)
