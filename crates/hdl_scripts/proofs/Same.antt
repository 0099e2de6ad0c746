-- The ends of a lane, before and after it was served.
use Rattle.std.proofs.Common.{◌≡◌, List, [], ◌∷◌, All, length, get_or, sym, subst, refl, ◌∙◌, arith}
use Rattle.std.specs.List.{AllZip}
use Rattle.std.proofs.lemmas.List.Elements.{All-nil, All-cons, All-head, All-tail}
use Rattle.hdl_events.specs.declared.Event.{Event}
use Rattle.hdl_events.specs.declared.Outcome.{Outcome}
use Rattle.hdl_lanes.specs.Lane.{AreEnds, SameOutlet}
use Rattle.hdl_lanes.specs.declared.Inlet.{Inlet}
use Rattle.hdl_lanes.specs.declared.outlet.Outlet.{Outlet}
use Rattle.hdl_workers.specs.Joined.{EndsLane}
use Rattle.hdl_workers.specs.declared.item.Item.{Item}
use Rattle.hdl_workers.specs.declared.worker.WorkerEnd.{WorkerEnd}
use Rattle.hdl_workers.specs.declared.ends.LaneEnds.{LaneEnds}
use Rattle.hdl_workers.specs.Ends.{AreDistinct, Meet}
use Rattle.hdl_serve.specs.Served.{LaneServed, IsServed}
use Rattle.hdl_workers.proofs.Settled.{still_put, still_taken, still_ended}
use Rattle.hdl_laws.specs.Worlds.{World}
use Rattle.hdl_scripts.specs.Same.{SameLane, IsEach}

-- each end is one of four equations, and its capacity
pub then_same : (a b c : LaneEnds) → SameLane a b → SameLane b c → SameLane a c
then_same a b c p q = (
  ((q.0.0.0 ∙ p.0.0.0, q.0.0.1 ∙ p.0.0.1, q.0.0.2 ∙ p.0.0.2, q.0.0.3 ∙ p.0.0.3), q.0.1 ∙ p.0.1),
  ((q.1.0.0 ∙ p.1.0.0, q.1.0.1 ∙ p.1.0.1, q.1.0.2 ∙ p.1.0.2, q.1.0.3 ∙ p.1.0.3), q.1.1 ∙ p.1.1),
)

-- lanes that were served are each the same as before
pub served_same : (events : List Event) (outcomes : List Outcome) (firsts olds news : List LaneEnds)
    → AllZip (LaneServed events outcomes) olds news → All (IsEach firsts) olds → All (IsEach firsts) news
served_same events outcomes firsts [] [] zip all = All-nil (IsEach firsts)
served_same events outcomes firsts (o ∷ os) (n ∷ ns) zip all =
    let first : IsEach firsts o = All-head (IsEach firsts) o os all in
    All-cons (IsEach firsts) n ns (λ k d below. then_same (get_or firsts k d) o n (first k d below) (zip.0.outlet, zip.0.inlet))
    (served_same events outcomes firsts os ns zip.1 (All-tail (IsEach firsts) o os all))
served_same events outcomes firsts [] (n ∷ ns) zip all = absurd zip
served_same events outcomes firsts (o ∷ os) [] zip all = absurd zip

pub itself : (a : LaneEnds) → SameLane a a
itself a = (((refl, refl, refl, refl), refl), ((refl, refl, refl, refl), refl))

pub served_each : (w new : World) (before after : List LaneEnds) → IsServed w before new after → (firsts : List LaneEnds) → All (IsEach firsts) before → All (IsEach firsts) after
served_each w new before after s firsts all = served_same s.events s.outcomes firsts before after s.lanes all

-- one lane
each_of : (xs : List LaneEnds) → length xs ≡ 1 → All (IsEach xs) xs
each_of [] one = absurd (omega (arith, one))
each_of (a ∷ []) one = All-cons (IsEach (a ∷ [])) a [] (All-cons (λ x. SameLane x a) a [] (itself a) (All-nil (λ x. SameLane x a))) (All-nil (IsEach (a ∷ [])))
each_of (a ∷ b ∷ xs) one = absurd (omega (arith, one))

pub one_distinct : (xs : List LaneEnds) → length xs ≡ 1 → AreDistinct xs
one_distinct xs one = λ i j d below here. absurd (omega (arith, one, below, here))

pub one_each : (firsts xs : List LaneEnds) → firsts ≡ xs → length xs ≡ 1 → All (IsEach firsts) xs
one_each firsts xs is one = subst (λ (fs : List LaneEnds). All (IsEach fs) xs) (sym is) (each_of xs one)

-- the ends that a worker and the server give back are those of one lane
pub settles : (inlet : Inlet Item) (first : Outlet Outcome) (a b : LaneEnds) (end : WorkerEnd)
    → AreEnds inlet a.items → AreEnds a.outcomes first → EndsLane inlet end.ended → SameOutlet first end.outlet → SameLane a b → Meet end b
settles inlet first a b end items given ends same lane =
    let m = lane.0.0 in
    let n = lane.1.0 in
    let e = ends.0 in
    let o = same.0 in (
      (m.0 ∙ items.0 ∙ sym e.0, m.1 ∙ items.1 ∙ sym e.1, m.2 ∙ items.2 ∙ sym e.2, m.3 ∙ items.3 ∙ sym e.3),
      (o.0 ∙ given.0 ∙ sym n.0, o.1 ∙ given.1 ∙ sym n.1, o.2 ∙ given.2 ∙ sym n.2, o.3 ∙ given.3 ∙ sym n.3),
    )

pub meets : (firsts : List LaneEnds) (inlet : Inlet Item) (first : Outlet Outcome) (end : WorkerEnd) (b : LaneEnds) → length firsts ≡ 1
    → All (λ a. AreEnds inlet a.items × AreEnds a.outcomes first) firsts → EndsLane inlet end.ended → SameOutlet first end.outlet → IsEach firsts b → Meet end b
meets [] inlet first end b one pairs ends same each = absurd (omega (arith, one))
meets (a ∷ xs) inlet first end b one pairs ends same each =
    let pair = All-head (λ x. AreEnds inlet x.items × AreEnds x.outcomes first) a xs pairs in
    settles inlet first a b end pair.0 pair.1 ends same (All-head (λ x. SameLane x b) a xs each)

pub ruleset still = (still_put, still_taken, still_ended)

pub ruleset one_lane = (one_distinct, one_each)
