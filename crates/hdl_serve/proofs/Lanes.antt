-- Serving goes on by one lane, and ends.
use Rattle.std.proofs.Common.{◌≡◌, ◌≢◌, ℕ, zero, suc, ◌<◌, ◌≤◌, List, [], ◌∷◌, ◌++◌, length, get_or, set, take, drop, Bool, true, false, not, true≢false, All, refl, inl, inr, sym, ap, ◌∙◌, subst, arith}
use Rattle.std.specs.List.{AllByRecursion, AllZip}
use Rattle.std.proofs.lemmas.Bool.{cases_eq, cases_order}
use Rattle.std.proofs.lemmas.List.{append-nil, length-map, length-set, get_or-set_same, get_or-set_other, get_or_default, get_or_past, drop_all, take_all}
use Rattle.std.proofs.lemmas.List.Elements.{All-nil, All-cons, All-append}
use Rattle.hdl_lanes.specs.Lane.{put_into, taken_from}
use Rattle.hdl_events.specs.declared.What.{What}
use Rattle.hdl_events.specs.declared.Event.{Event}
use Rattle.hdl_events.specs.declared.Outcome.{Outcome}
use Rattle.hdl_laws.specs.Worlds.{World}
use Rattle.hdl_laws.specs.Steps.{Turn}
use Rattle.hdl_laws.specs.Runs.{events, outcomes}
use Rattle.hdl_laws.specs.Laws.{HostsNoRoot, RestrictsRuns, TwinsReplyAlike}
use Rattle.hdl_cluster_laws.specs.Shared.{turns_in}
use Rattle.hdl_workers.specs.declared.item.Item.{Item}
use Rattle.hdl_workers.specs.declared.ends.LaneEnds.{LaneEnds}
use Rattle.hdl_workers.specs.Sign.{WithEnd}
use Rattle.hdl_workers.specs.Ends.{AreDistinct}
use Rattle.hdl_serve.specs.Served.{events_on, outcomes_on, items_of, IsOnOne, LaneServed, IsServed}
use Rattle.hdl_serve.specs.declared.news.StampedChange.{StampedChange}
use Rattle.hdl_serve.specs.declared.serving.SharedEnd.{SharedEnd}
use Rattle.hdl_serve.specs.Shared.{TakeOver, IsShared}
use Rattle.hdl_serve.specs.Rounds.{AreWithEnd, GaveEnd, Passes, Serves, EachLane, HasRunBeside, IsServing, on_lane}
use Rattle.hdl_serve.proofs.Beside.{own_events, own_outcomes, foreign_events, foreign_outcomes}
use Rattle.hdl_serve.proofs.Sharing.{beside_none, beside_run, beside_then, alone}
use Rattle.hdl_serve.proofs.Steps.{passes_then, passes_nothing}

-- turns have one outcome for each event
length_beside : (w new : World) (cs : List StampedChange) (es : List Event) (os : List Outcome) → HasRunBeside w cs es os new → length es ≡ length os
length_beside w new cs es os run =
    sym (ap length run.3) ∙ length-map (turns_in run.0) (λ (t : Turn). t.event) ∙ sym (length-map (turns_in run.0) (λ (t : Turn). t.outcome)) ∙ ap length run.4

-- ---- each event is of a lane

on_one : (lanes : List LaneEnds) (p : ℕ) (e : Event) → p < length lanes → ((d : LaneEnds) → (get_or lanes p d).lane ≡ e.lane) → IsOnOne lanes e
on_one [] p e there is = absurd (omega (arith, there))
on_one (a ∷ lanes) zero e there is = (0, omega arith, is a)
on_one (a ∷ lanes) (suc p) e there is =
    let rest = on_one lanes p e (omega (arith, there)) is in
    (suc rest.0, omega (arith, rest.1), rest.2)

all_on_one : (lanes : List LaneEnds) (p n : ℕ) (whats : List What) → p < length lanes → ((d : LaneEnds) → (get_or lanes p d).lane ≡ n) → All (IsOnOne lanes) (on_lane n whats)
all_on_one lanes p n [] there is = All-nil (IsOnOne lanes)
all_on_one lanes p n (w ∷ ws) there is =
    All-cons (IsOnOne lanes) (record { lane = n; what = w }) (on_lane n ws) (on_one lanes p (record { lane = n; what = w }) there is) (all_on_one lanes p n ws there is)

-- lanes at two places have two numbers
two_numbers : (lanes : List LaneEnds) (n i : ℕ) (d : LaneEnds) → AreDistinct lanes → n ≢ i → n < length lanes → i < length lanes → (get_or lanes i d).lane ≢ (get_or lanes n d).lane
two_numbers lanes n i d distinct other here there same = elim (cases_order n i) [
  | inl is ↦ other is
  | inr order ↦ elim order [ inl below ↦ distinct n i d below there (sym same) | inr above ↦ distinct i n d above here same ]
]

-- ---- steps of serving

pub serving_first : (w : World) (lanes : List LaneEnds) (ended : List Bool) → AreDistinct lanes → ended ≡ [] → IsServing w lanes [] w lanes ended
serving_first w lanes ended distinct going =
    subst (λ flags. IsServing w lanes [] w lanes flags) (sym going) (record {
      distinct = distinct;
      events = [];
      outcomes = [];
      run = beside_none w;
      given = All-nil (IsOnOne lanes);
      lanes = record { long = refl; each = λ n d below. passes_nothing false (get_or lanes n d) };
    })

-- one lane was served
pub serving_on : (w mid new : World) (before : List LaneEnds) (cs : List StampedChange) (lanes : List LaneEnds) (now : List Bool) (i : ℕ) (e f : Bool) (d b : LaneEnds) → i < length lanes → i < length now
    → Serves (get_or now i e) f mid new (get_or lanes i d) b → IsServing w before cs mid lanes now → IsServing w before cs new (set lanes i b) (set now i f)
serving_on w mid new before cs lanes now i e f d b there flagged s h =
    let n : ℕ = (get_or lanes i d).lane in
    let more : List Event = on_lane n s.whats in
    let here : i < length before = subst (λ m. i < m) h.lanes.long there in
    let long : length h.events ≡ length h.outcomes = length_beside w mid cs h.events h.outcomes h.run in
    let served : HasRunBeside mid [] more s.outcomes new = beside_run mid new more s.outcomes s.run in
    let few : length s.whats ≡ length s.outcomes = sym (length-map s.whats (λ (what : What). record { lane = n; what = what })) ∙ length_beside mid new [] more s.outcomes served in
    let number : (x : LaneEnds) → (get_or before i x).lane ≡ n
    = λ x. sym (h.lanes.each i x here).lane ∙ ap (λ (z : LaneEnds). z.lane) (get_or_default lanes i x d there) in
    let R : ℕ → LaneEnds → LaneEnds → Type 0 = λ k a c. Passes false (get_or (set now i f) k false) (events_on a.lane (h.events ++ more)) (outcomes_on a.lane (h.events ++ more) (h.outcomes ++ s.outcomes)) a c in
    let this : (x : LaneEnds) → R i (get_or before i x) b = λ x.
    let a : LaneEnds = get_or before i x in
    let old : Passes false (get_or now i false) (events_on a.lane h.events) (outcomes_on a.lane h.events h.outcomes) a (get_or lanes i d)
    = subst (λ c. Passes false (get_or now i false) (events_on a.lane h.events) (outcomes_on a.lane h.events h.outcomes) a c) (get_or_default lanes i x d there) (h.lanes.each i x here) in
    let last : Passes (get_or now i false) f s.whats s.outcomes (get_or lanes i d) b
    = subst (λ g. Passes g f s.whats s.outcomes (get_or lanes i d) b) (get_or_default now i e false flagged) s.passes in
    let both = passes_then false (get_or now i false) f (events_on a.lane h.events) s.whats (outcomes_on a.lane h.events h.outcomes) s.outcomes a (get_or lanes i d) b old last in
    subst (λ g. Passes false g (events_on a.lane (h.events ++ more)) (outcomes_on a.lane (h.events ++ more) (h.outcomes ++ s.outcomes)) a b) (sym (get_or-set_same now i f false flagged))
    (subst (λ ws. Passes false f ws (outcomes_on a.lane (h.events ++ more) (h.outcomes ++ s.outcomes)) a b) (sym (own_events a.lane n h.events s.whats (sym (number x))))
    (subst (λ os. Passes false f (events_on a.lane h.events ++ s.whats) os a b) (sym (own_outcomes a.lane n h.events h.outcomes s.whats s.outcomes long few (sym (number x)))) both)) in
    let others : (k : ℕ) (x : LaneEnds) → k < length before → k ≢ i → R k (get_or before k x) (get_or lanes k x) = λ k x below other.
    let a : LaneEnds = get_or before k x in
    let c : LaneEnds = get_or lanes k x in
    let apart : n ≢ a.lane = λ same. two_numbers before k i x h.distinct other below here (number x ∙ same) in
    subst (λ g. Passes false g (events_on a.lane (h.events ++ more)) (outcomes_on a.lane (h.events ++ more) (h.outcomes ++ s.outcomes)) a c) (sym (get_or-set_other now i k f false other))
    (subst (λ ws. Passes false (get_or now k false) ws (outcomes_on a.lane (h.events ++ more) (h.outcomes ++ s.outcomes)) a c) (sym (foreign_events a.lane n h.events s.whats apart ∙ append-nil _))
    (subst (λ os. Passes false (get_or now k false) (events_on a.lane h.events) os a c) (sym (foreign_outcomes a.lane n h.events h.outcomes s.whats s.outcomes long apart ∙ append-nil _)) (h.lanes.each k x below))) in
    record {
      distinct = h.distinct;
      events = h.events ++ more;
      outcomes = h.outcomes ++ s.outcomes;
      run = subst (λ xs. HasRunBeside w xs (h.events ++ more) (h.outcomes ++ s.outcomes) new) (append-nil cs) (beside_then w mid new cs [] h.events more h.outcomes s.outcomes h.run served);
      given = All-append (IsOnOne before) h.events more h.given (all_on_one before i n s.whats here number);
      lanes = record {
        long = length-set lanes i b ∙ h.lanes.long;
        each = λ k x below. elim (cases_eq k i) [
          | inl same ↦ subst (λ m. R m (get_or before m x) (get_or (set lanes i b) m x)) (sym same) (subst (λ c. R i (get_or before i x) c) (sym (get_or-set_same lanes i b x there)) (this x))
          | inr other ↦ subst (λ c. R k (get_or before k x) c) (sym (get_or-set_other lanes i k b x other)) (others k x below other)
        ];
      };
    }

-- changes of others were let in
pub serving_beside : (w mid new : World) (before lanes : List LaneEnds) (cs ds : List StampedChange) (now : List Bool) → IsServing w before cs mid lanes now → HasRunBeside mid ds [] [] new → IsServing w before (cs ++ ds) new lanes now
serving_beside w mid new before lanes cs ds now h run = record {
  distinct = h.distinct;
  events = h.events;
  outcomes = h.outcomes;
  run = subst (λ es. HasRunBeside w (cs ++ ds) es h.outcomes new) (append-nil h.events)
      (subst (λ os. HasRunBeside w (cs ++ ds) (h.events ++ []) os new) (append-nil h.outcomes) (beside_then w mid new cs ds h.events [] h.outcomes [] h.run run));
  given = h.given;
  lanes = h.lanes;
}

-- flags that say the same of each lane
pub same_flags : (w new : World) (before after : List LaneEnds) (cs : List StampedChange) (was now : List Bool) → ((n : ℕ) → n < length after → get_or now n false ≡ get_or was n false) → IsServing w before cs new after was
    → IsServing w before cs new after now
same_flags w new before after cs was now same h = record {
  distinct = h.distinct;
  events = h.events;
  outcomes = h.outcomes;
  run = h.run;
  given = h.given;
  lanes = record {
    long = h.lanes.long;
    each = λ n x below.
        let a : LaneEnds = get_or before n x in
        subst (λ g. Passes false g (events_on a.lane h.events) (outcomes_on a.lane h.events h.outcomes) a (get_or after n x)) (sym (same n (subst (λ m. n < m) (sym h.lanes.long) below))) (h.lanes.each n x below);
  };
}

-- new flags are false
pub new_flags : (old new : List Bool) (len m : ℕ) → len ≡ length old → ((k : ℕ) (d : Bool) → k < m → k < len → get_or new k d ≡ get_or old k d) → ((k : ℕ) (d : Bool) → len ≤ k → k < m → get_or new k d ≡ false)
    → (n : ℕ) → n < m → get_or new n false ≡ get_or old n false
new_flags old new len m long kept more n below = elim (cases_order n len) [
  | inl same ↦ more n false (omega (arith, same)) below ∙ sym (get_or_past old n false (omega (arith, same, long)))
  | inr order ↦ elim order [
    | inl before ↦ kept n false below before
    | inr behind ↦ more n false (omega (arith, behind)) below ∙ sym (get_or_past old n false (omega (arith, behind, long)))
  ]
]

-- ---- lanes in a vector

-- a slice of a whole vector was written, and kept its length
pub written_back : {X : Type 0} (old new : List X) (n : ℕ) → n ≡ length old → length new ≡ length old → take n (new ++ drop (length new) old) ≡ new
written_back old new n whole long =
    ap (λ rest. take n (new ++ rest)) (drop_all (length new) old (omega (arith, long))) ∙ ap (take n) (append-nil new) ∙ take_all n new (omega (arith, whole, long))

-- ---- the end

-- an End that was taken is the last item
with_end : (ended : Bool) (events items : List Item) → AreWithEnd ended events items → WithEnd events items
with_end false events items is = inl is
with_end true events items is = inr is

lane_served : (events : List Event) (outcomes : List Outcome) (f : Bool) (a b : LaneEnds) → Passes false f (events_on a.lane events) (outcomes_on a.lane events outcomes) a b → LaneServed events outcomes a b
lane_served events outcomes f a b p = record {
  lane = p.lane;
  outlet = p.outlet;
  inlet = p.inlet;
  taken = p.taken;
  end_last = with_end f (taken_from a.items ++ items_of (events_on a.lane events)) (taken_from b.items) (p.with_end (taken_from a.items) refl);
  put = p.put;
}

zip_each : (R : LaneEnds → LaneEnds → Type 0) (olds news : List LaneEnds) → length news ≡ length olds → ((n : ℕ) (d : LaneEnds) → n < length olds → R (get_or olds n d) (get_or news n d)) → AllZip R olds news
zip_each R [] [] long each = tt
zip_each R [] (y ∷ ys) long each = absurd (omega (arith, long))
zip_each R (x ∷ xs) [] long each = absurd (omega (arith, long))
zip_each R (x ∷ xs) (y ∷ ys) long each = (each 0 x (omega arith), zip_each R xs ys (omega (arith, long)) (λ n d below. each (suc n) d (omega (arith, below))))

-- serving ends
pub shared : (w new : World) (before after : List LaneEnds) (cs known later : List StampedChange) (ended : List Bool) → later ≡ known ++ cs → IsServing w before cs new after ended → IsShared w before known new after later
shared w new before after cs known later ended news h = record {
  parts = h.run.0;
  are = h.run.1;
  last = h.run.5;
  changes = cs;
  taken_over = h.run.2;
  news = news;
  lanes = subst (λ es. AllZip (LaneServed es (outcomes (turns_in h.run.0))) before after) (sym h.run.3)
      (subst (λ os. AllZip (LaneServed h.events os) before after) (sym h.run.4)
      (zip_each (LaneServed h.events h.outcomes) before after h.lanes.long
      (λ n d below. lane_served h.events h.outcomes (get_or ended n false) (get_or before n d) (get_or after n d) (h.lanes.each n d below))));
  of = subst (All (IsOnOne before)) (sym h.run.3) h.given;
}

-- without other servers
pub served : RestrictsRuns → TwinsReplyAlike → (w new : World) (before after : List LaneEnds) → HostsNoRoot w.site → IsShared w before [] new after [] → IsServed w before new after
served restricts twins w new before after no_root s =
    let run = alone w s.parts s.are (subst (TakeOver w s.parts) (sym s.news) s.taken_over) in
    record {
      events = events (turns_in s.parts);
      outcomes = outcomes (turns_in s.parts);
      run = (turns_in s.parts, run.0, refl, refl, run.1 ∙ s.last);
      isolated = λ ts run is os. restricts w ts no_root run;
      hidden = λ ts run is os. twins w ts run;
      lanes = s.lanes;
      of = s.of;
    }

-- serving that hasn't parted is over
pub not_parted : (end : SharedEnd) (P : Type 0) → (end ≡ SharedEnd.Over → P) → (end ≡ SharedEnd.Diverged → ⊥) → P
not_parted SharedEnd.Over P over parted = over refl
not_parted SharedEnd.Diverged P over parted = absurd (parted refl)

-- what is denied isn't so
pub turned : (b v : Bool) → v ≡ not b → v ≡ false → b ≡ true
turned true v is untrue = refl
turned false v is untrue = absurd (true≢false (sym is ∙ untrue))

-- each of them is true
flag_true : (flags : List Bool) (n : ℕ) → AllByRecursion (λ e. e ≡ true) flags → n < length flags → get_or flags n false ≡ true
flag_true [] n all below = absurd (omega (arith, below))
flag_true (f ∷ flags) zero all below = all.0
flag_true (f ∷ flags) (suc n) all below = flag_true flags n all.1 (omega (arith, below))

-- each lane gave End
pub gave_end : (w new : World) (before after : List LaneEnds) (cs : List StampedChange) (ended : List Bool) → IsServing w before cs new after ended → length ended ≡ length after → AllByRecursion (λ e. e ≡ true) ended → AllZip GaveEnd before after
gave_end w new before after cs ended h long all =
    zip_each GaveEnd before after h.lanes.long (λ n d below.
    let a : LaneEnds = get_or before n d in
    let b : LaneEnds = get_or after n d in
    let whats = events_on a.lane h.events in
    let flag : get_or ended n false ≡ true = flag_true ended n all (omega (arith, below, long, h.lanes.long)) in
    (whats, subst (λ f. AreWithEnd f (taken_from a.items ++ items_of whats) (taken_from b.items)) flag ((h.lanes.each n d below).with_end (taken_from a.items) refl)))

-- the lanes that come back still have numbers of their own
pub still_distinct : (w new : World) (before after : List LaneEnds) (cs : List StampedChange) (ended : List Bool) → IsServing w before cs new after ended → AreDistinct after
still_distinct w new before after cs ended h = λ i j d below here same.
    let there : j < length before = subst (λ m. j < m) h.lanes.long here in
    h.distinct i j d below there (sym (h.lanes.each i d (omega (arith, below, there))).lane ∙ same ∙ (h.lanes.each j d there).lane)
