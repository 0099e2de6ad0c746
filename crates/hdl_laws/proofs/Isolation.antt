-- The laws of covers and of restriction, from what holds of one turn.
use Rattle.std.proofs.Common.{◌≡◌, ℕ, List, [], ◌∷◌, Option, Some, None, map, refl, sym, ap, ◌∙◌, subst}
use Rattle.hdl_value.specs.Place.{Place}
use Rattle.hdl_events.specs.declared.Event.{Event}
use Rattle.hdl_events.specs.declared.Outcome.TheVariants.{Silent}
use Rattle.hdl_laws.specs.Worlds.{World, hosts, algorithms, owner, lane_of, lane_profile}
use Rattle.hdl_laws.specs.Tasks.{Task, IsTask}
use Rattle.hdl_laws.specs.Effects.{Effect, Does}
use Rattle.hdl_laws.specs.Steps.{Turn, turn, IsAnswerFor, IsAnswer}
use Rattle.hdl_laws.specs.Runs.{IsRun, IsRunWithoutBusy, HasRunWithoutBusy, last, events, outcomes}
use Rattle.hdl_laws.specs.Isolation.{IsCover, IsQuiet, restrict, turns_of}
use Rattle.hdl_laws.specs.Laws.{ClosedAlong, KeepsCovers, RestrictsRuns, RunWithoutBusyIsOne, TwoRunsAgree}
use Rattle.hdl_laws.proofs.Steps.{task_one, does_one}
use Rattle.hdl_laws.proofs.Restriction.{restrict_turn, Facts, facts_after, restricted_by}

-- ---- covers and restriction

facts : (w : World) (ts : List Turn) (u : ℕ) (C : List Place) → IsRun w ts → IsCover u C w ts → IsQuiet w.site u C w ts → Facts u C w ts
facts w ts u C run cover quiet = record { run = run; closed = cover.start; written = cover.written; quiet = quiet }

closed_along : (u : ℕ) (C : List Place) (w : World) (ts : List Turn) → Facts u C w ts → ClosedAlong u C w ts
closed_along u C w [] f = f.closed
closed_along u C w (t ∷ ts) f = (f.closed, closed_along u C t.after ts (facts_after u C w t ts f))

pub keeps_covers : KeepsCovers
keeps_covers w ts u C run cover quiet = closed_along u C w ts (facts w ts u C run cover quiet)

same_events : (u : ℕ) (C : List Place) (ts : List Turn) → events (map (restrict_turn u C) ts) ≡ events ts
same_events u C [] = refl
same_events u C (t ∷ ts) = ap (λ es. t.event ∷ es) (same_events u C ts)

same_outcomes : (u : ℕ) (C : List Place) (ts : List Turn) → outcomes (map (restrict_turn u C) ts) ≡ outcomes ts
same_outcomes u C [] = refl
same_outcomes u C (t ∷ ts) = ap (λ os. t.outcome ∷ os) (same_outcomes u C ts)

pub restricts_runs : RestrictsRuns
restricts_runs w ts rootless run u C cover quiet =
    let r = restricted_by u C w ts (rootless u) (facts w ts u C run cover quiet) in
    (map (restrict_turn u C) (turns_of w.site u ts), r.0, same_events u C (turns_of w.site u ts), same_outcomes u C (turns_of w.site u ts), r.1)

-- ---- an answer is one

-- an answer, by an event that stands beside the turn
abbrev pub AnswersFor : World → Event → Option ℕ → Turn → Type 0
AnswersFor w e None t = t ≡ record { event = t.event; outcome = Silent; change = None; after = w }
AnswersFor w e (Some u) t = (eff : Effect) × (k : Task) × IsTask (lane_profile w.site u) (lane_of w e.lane) e.what k × Does (hosts w.site u) (algorithms w.site u) w.table k eff × (t ≡ turn w t.event eff)

pub at_event : (w : World) (e : Event) (t : Turn) → t.event ≡ e → IsAnswer w t → AnswersFor w e (owner w.site e.lane) t
at_event w e t is a = subst (λ x. AnswersFor w x (owner w.site x.lane) t) is (as_for (owner w.site t.event.lane) a)
  where
    as_for : (o : Option ℕ) → IsAnswerFor w o t → AnswersFor w t.event o t
    as_for None b = b
    as_for (Some u) b = b

answer_one : (w : World) (t t' : Turn) → t.event ≡ t'.event → IsAnswer w t → IsAnswer w t' → t ≡ t'
answer_one w t t' is a b = by_owner (owner w.site t'.event.lane) (at_event w t'.event t is a) (at_event w t'.event t' refl b)
  where
    by_owner : (o : Option ℕ) → AnswersFor w t'.event o t → AnswersFor w t'.event o t' → t ≡ t'
    by_owner None x y = x ∙ ap (λ (e : Event). record { event = e; outcome = Silent; change = None; after = w }) is ∙ sym y
    by_owner (Some u) x y =
        let same : x.1 ≡ y.1 = task_one (lane_profile w.site u) (lane_of w t'.event.lane) t'.event.what x.1 y.1 x.2 y.2 in
        let does : Does (hosts w.site u) (algorithms w.site u) w.table y.1 x.0 = subst (λ k. Does (hosts w.site u) (algorithms w.site u) w.table k x.0) same x.3 in
        x.4 ∙ (λ i. turn w (is i) (does_one (hosts w.site u) (algorithms w.site u) w.table y.1 x.0 y.0 does y.3 i)) ∙ sym y.4

pub head_same : {A : Type 0} (x y : A) (xs ys : List A) → x ∷ xs ≡ y ∷ ys → x ≡ y
head_same x y xs ys e = cc

pub tail_same : {A : Type 0} (x y : A) (xs ys : List A) → x ∷ xs ≡ y ∷ ys → xs ≡ ys
tail_same x y xs ys e = cc

pub no_cons : {A : Type 0} (x : A) (xs : List A) → [] ≡ x ∷ xs → ⊥
no_cons x xs e = cc

turns_without_busy_one : (w : World) (ts ts' : List Turn) → IsRunWithoutBusy w ts → IsRunWithoutBusy w ts' → events ts ≡ events ts' → ts ≡ ts'
turns_without_busy_one w [] [] a b e = refl
turns_without_busy_one w [] (t ∷ ts) a b e = absurd (no_cons t.event (events ts) e)
turns_without_busy_one w (t ∷ ts) [] a b e = absurd (no_cons t.event (events ts) (sym e))
turns_without_busy_one w (t ∷ ts) (t' ∷ ts') a b e =
    let here : t ≡ t' = answer_one w t t' (head_same t.event t'.event (events ts) (events ts') e) a.0 b.0 in
    let rest : ts ≡ ts' = turns_without_busy_one t'.after ts ts' (subst (λ (z : Turn). IsRunWithoutBusy z.after ts) here a.1) b.1 (tail_same t.event t'.event (events ts) (events ts') e) in
    λ i. here i ∷ rest i

pub run_without_busy_is_one : RunWithoutBusyIsOne
run_without_busy_is_one w new new' es os os' a b =
    let same : a.0 ≡ b.0 = turns_without_busy_one w a.0 b.0 a.1 b.1 (a.2 ∙ sym b.2) in
    (sym a.3 ∙ ap outcomes same ∙ b.3, sym a.4 ∙ ap (last w) same ∙ b.4)

pub two_runs_agree : TwoRunsAgree
two_runs_agree w w' ts ts' u C rootless rootless' run run' cover cover' quiet quiet' same es =
    let a = restricts_runs w ts rootless run u C cover quiet in
    let b = restricts_runs w' ts' rootless' run' u C cover' quiet' in
    let os = outcomes (turns_of w'.site u ts') in
    let end = restrict (last w' ts') u C in
    let b' : HasRunWithoutBusy (restrict w u C) (events (turns_of w.site u ts)) os end =
    subst (λ v. HasRunWithoutBusy v (events (turns_of w.site u ts)) os end) (sym same) (subst (λ x. HasRunWithoutBusy (restrict w' u C) x os end) (sym es) b) in
    run_without_busy_is_one (restrict w u C) (restrict (last w ts) u C) end (events (turns_of w.site u ts)) (outcomes (turns_of w.site u ts)) os a b'
