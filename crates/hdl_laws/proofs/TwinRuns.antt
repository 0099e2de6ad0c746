-- Runs of the same events from twins, with the same codes.
use Rattle.std.proofs.Common.{◌≡◌, ℕ, List, [], ◌∷◌, false, ◌==◌, inl, inr, Option, Some, None, map, refl, sym, ap, ◌∙◌, subst, true≢false}
use Rattle.hdl_frame.specs.Envelope.{envelope_at}
use Rattle.hdl_rows.specs.Table.{Table}
use Rattle.hdl_msg.specs.Reply.{short_reply}
use Rattle.hdl_ops.proofs.Codes.{not_busy}
use Rattle.hdl_events.specs.declared.Event.{Event}
use Rattle.hdl_events.specs.declared.Outcome.TheVariants.{Busy}
use Rattle.hdl_laws.specs.Worlds.{World, with_table, hosts, algorithms, owner, lane_of, lane_profile_for, lane_profile}
use Rattle.hdl_laws.specs.Tasks.{Received, IsTask}
use Rattle.hdl_laws.specs.Effects.{Effect, Does}
use Rattle.hdl_laws.specs.Steps.{what_of, Turn, IsBusy, IsStep, moment_of, after_effect}
use Rattle.hdl_laws.specs.Runs.{IsRun, last, events, outcomes}
use Rattle.hdl_laws.specs.Isolation.{AreTwins, AreTwinWorlds, code_of, AllowsTurn, Allows}
use Rattle.hdl_laws.specs.Laws.{TwinsReplyAlike}
use Rattle.hdl_laws.proofs.Codes.{does_code}
use Rattle.hdl_laws.proofs.Isolation.{AnswersFor, at_event, head_same, tail_same, no_cons}
use Rattle.hdl_laws.proofs.Steps.{task_one}
use Rattle.hdl_laws.proofs.Twins.{does_twin, apply_twin}

answers_code : (w : World) (e : Event) (o : Option ℕ) (t : Turn) → AnswersFor w e o t → (code_of t.outcome == 3) ≡ false
answers_code w e None t a = ap (λ (z : Turn). code_of z.outcome == 3) a
answers_code w e (Some u) t a = ap (λ (z : Turn). code_of z.outcome == 3) a.4 ∙ not_busy (code_of a.0.outcome) (does_code (hosts w.site u) (algorithms w.site u) w.table a.1 a.0 a.3)

not_busy_code : (w v : World) (t t' : Turn) (e : Event) → code_of t.outcome ≡ code_of t'.outcome → AnswersFor w e (owner w.site e.lane) t → IsBusy v t' → ⊥
not_busy_code w v t t' e codes a b =
    true≢false (sym (ap (λ (z : Turn). code_of z.outcome == 3) b.busy) ∙ ap (λ c. c == 3) (sym codes) ∙ answers_code w e (owner w.site e.lane) t a)

same_received : (x y : Received) → what_of x ≡ what_of y → x ≡ y
same_received x y e =
    let peers : x.peer ≡ y.peer = cc in
    let moments : x.moment ≡ y.moment = cc in
    let nonces : x.nonce ≡ y.nonce = cc in
    let bytes : x.bytes ≡ y.bytes = cc in
    λ i. record { peer = peers i; moment = moments i; nonce = nonces i; bytes = bytes i }

module _ (H : List (List ℕ)) where
  abbrev Alike : Turn → Turn → Type 0
  Alike t t' = (t.outcome ≡ t'.outcome) × AreTwinWorlds H t.after t'.after

  alike_by : (t t' : Turn) (v v' : World) → t.outcome ≡ t'.outcome → t.after ≡ v → t'.after ≡ v' → AreTwinWorlds H v v' → Alike t t'
  alike_by t t' v v' out a b twins = (out, subst (λ z. AreTwinWorlds H z t'.after) (sym a) (subst (λ z. AreTwinWorlds H v z) (sym b) twins))

  -- from worlds with one site and the same lanes
  answers_twin : (w : World) (u2 : Table) → AreTwins H w.table u2 → (t t' : Turn) → t.event ≡ t'.event → code_of t.outcome ≡ code_of t'.outcome → AllowsTurn H w t
      → (o : Option ℕ) → owner w.site t.event.lane ≡ o → AnswersFor w t.event o t → AnswersFor (with_table w u2) t.event o t' → Alike t t'
  answers_twin w u2 twins t t' is codes allows None mine a b =
      alike_by t t' w (with_table w u2) (ap (λ (z : Turn). z.outcome) a ∙ sym (ap (λ (z : Turn). z.outcome) b)) (ap (λ (z : Turn). z.after) a) (ap (λ (z : Turn). z.after) b) (record { site = refl; lanes = refl; tables = twins })
  answers_twin w u2 twins t t' is codes allows (Some u) mine a b =
      let out : t.outcome ≡ a.0.outcome = ap (λ (z : Turn). z.outcome) a.4 in
      let out' : t'.outcome ≡ b.0.outcome = ap (λ (z : Turn). z.outcome) b.4 in
      let task : a.1 ≡ b.1 = task_one (lane_profile w.site u) (lane_of w t.event.lane) t.event.what a.1 b.1 a.2 b.2 in
      let does : Does (hosts w.site u) (algorithms w.site u) u2 a.1 b.0 = subst (λ k. Does (hosts w.site u) (algorithms w.site u) u2 k b.0) (sym task) b.3 in
      let same : a.0 ≡ b.0 = does_twin H w.table u2 twins (hosts w.site u) (algorithms w.site u) a.1 a.0 b.0 a.3 does (sym (ap code_of out) ∙ codes ∙ ap code_of out') (λ r k res one. allows a.1 r (subst (λ l. IsTask l (lane_of w t.event.lane) t.event.what a.1) (sym (ap (lane_profile_for w.site) mine)) a.2) k res (ap code_of out ∙ one)) in
      alike_by t t' (after_effect w t.event a.0) (after_effect (with_table w u2) t.event a.0)
      (out ∙ ap (λ (z : Effect). z.outcome) same ∙ sym out')
      (ap (λ (z : Turn). z.after) a.4)
      (ap (λ (z : Turn). z.after) b.4 ∙ (λ i. after_effect (with_table w u2) (sym is i) (sym same i)))
      (record { site = refl; lanes = refl; tables = apply_twin H w.table u2 twins (moment_of t.event.what) a.0.change })

  step_twin_on : (w : World) (u2 : Table) → AreTwins H w.table u2 → (t t' : Turn) → t.event ≡ t'.event → code_of t.outcome ≡ code_of t'.outcome → AllowsTurn H w t
      → IsStep w t → IsStep (with_table w u2) t' → Alike t t'
  step_twin_on w u2 twins t t' is codes allows (inl a) (inl b) =
      answers_twin w u2 twins t t' is codes allows (owner w.site t.event.lane) refl (at_event w t.event t refl a) (at_event (with_table w u2) t.event t' (sym is) b)
  step_twin_on w u2 twins t t' is codes allows (inl a) (inr b) = absurd (not_busy_code w (with_table w u2) t t' t.event codes (at_event w t.event t refl a) b)
  step_twin_on w u2 twins t t' is codes allows (inr a) (inl b) = absurd (not_busy_code (with_table w u2) w t' t t'.event (sym codes) (at_event (with_table w u2) t'.event t' refl b) a)
  step_twin_on w u2 twins t t' is codes allows (inr a) (inr b) =
      let same : a.received ≡ b.received = same_received a.received b.received (sym a.frame_event ∙ ap (λ (e : Event). e.what) is ∙ b.frame_event) in
      alike_by t t' w (with_table w u2)
      (ap (λ (z : Turn). z.outcome) a.busy ∙ ap (λ (x : Received). Busy (short_reply 3 (envelope_at x.bytes))) same ∙ sym (ap (λ (z : Turn). z.outcome) b.busy))
      (ap (λ (z : Turn). z.after) a.busy) (ap (λ (z : Turn). z.after) b.busy) (record { site = refl; lanes = refl; tables = twins })

  step_twin : (w w' : World) → AreTwinWorlds H w w' → (t t' : Turn) → t.event ≡ t'.event → code_of t.outcome ≡ code_of t'.outcome → AllowsTurn H w t → IsStep w t → IsStep w' t' → Alike t t'
  step_twin w w' twins t t' is codes allows a b =
      let same : w' ≡ with_table w w'.table = λ i. record { site = sym twins.site i; table = w'.table; lanes = sym twins.lanes i } in
      step_twin_on w w'.table twins.tables t t' is codes allows a (subst (λ v. IsStep v t') same b)

  run_twin : (w w' : World) (ts ts' : List Turn) → AreTwinWorlds H w w' → Allows H w ts → IsRun w ts → IsRun w' ts' → events ts ≡ events ts' → map code_of (outcomes ts) ≡ map code_of (outcomes ts')
      → (outcomes ts ≡ outcomes ts') × AreTwinWorlds H (last w ts) (last w' ts')
  run_twin w w' [] [] twins allows a b es cs = (refl, twins)
  run_twin w w' [] (t ∷ ts) twins allows a b es cs = absurd (no_cons t.event (events ts) es)
  run_twin w w' (t ∷ ts) [] twins allows a b es cs = absurd (no_cons t.event (events ts) (sym es))
  run_twin w w' (t ∷ ts) (t' ∷ ts') twins allows a b es cs =
      let here = step_twin w w' twins t t' (head_same t.event t'.event (events ts) (events ts') es) (head_same _ _ _ _ cs) allows.0 a.0 b.0 in
      let rest = run_twin t.after t'.after ts ts' here.1 allows.1 a.1 b.1 (tail_same t.event t'.event (events ts) (events ts') es) (tail_same _ _ _ _ cs) in
      ((λ i. here.0 i ∷ rest.0 i), rest.1)

pub twins_reply_alike : TwinsReplyAlike
twins_reply_alike w ts run H w' ts' allows twins run' es cs = run_twin H w w' ts ts' twins allows run run' es cs
