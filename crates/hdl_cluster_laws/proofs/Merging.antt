-- The turns of several servers are a run of the one service.
use Rattle.std.proofs.Common.{◌≡◌, ℕ, List, [], ◌∷◌, Bool, true, false, cond, ◌==◌, inl, inr, Option, Some, None, refl, sym, ap, ◌∙◌, subst, is_eq, IsTrue, true≢false, unwrap_or}
use Rattle.std.proofs.lemmas.Bool.{eqb-true, eq-eqb}
use Rattle.std.specs.Ordering.{nat_cmp, eq_by_cmp}
use Rattle.std.specs.Cmp.{nat_cmp_total, tied_itself}
use Rattle.std.specs.FinMap as map
use Rattle.std.specs.FinMap.{nat_cmp-IsAntisymmetric}
use Rattle.hdl_value.proofs.Places.{tied}
use Rattle.hdl_tenants.specs.Register.{Hosting, hosts_among, algorithm_among}
use Rattle.hdl_events.specs.declared.Event.{Event}
use Rattle.hdl_events.specs.declared.Outcome.TheVariants.{Silent, Busy}
use Rattle.hdl_frame.specs.Envelope.{envelope_at}
use Rattle.hdl_msg.specs.Codes.{response_number}
use Rattle.hdl_msg.specs.declared.codes.ResponseCode.TheVariants.{ServerBusy}
use Rattle.hdl_msg.specs.Reply.{short_reply}
use Rattle.hdl_ops.specs.Tables.{apply_if}
use Rattle.hdl_laws.specs.Lanes.{LaneState, fresh}
use Rattle.hdl_laws.specs.LaneProfile.{LaneProfile}
use Rattle.hdl_laws.specs.Worlds.{World, Site, with_table, owner, hosts, algorithms, lane_profile, lane_of}
use Rattle.hdl_laws.specs.Tasks.{IsTask}
use Rattle.hdl_laws.specs.Effects.{Effect, Does}
use Rattle.hdl_laws.specs.Steps.{Turn, turn, moment_of, after_effect, IsAnswerFor, IsBusy, IsStep}
use Rattle.hdl_cluster_laws.specs.Together.{AreApart, HasServer, HasAll, ServerTurn, at_server, worlds_after, event_among}
use Rattle.hdl_cluster_laws.specs.Laws.{TurnsAreRuns}

-- what stands on a lane once a lane was written
lane_written : (m : map.FinMap nat_cmp LaneState) (lane : ℕ) (s : LaneState) → unwrap_or (map.get (map.insert m lane s) lane) (fresh false) ≡ s
lane_written m lane s =
    ap (λ o. unwrap_or o (fresh false)) (map.get-insert nat_cmp_total m lane s lane)
    ∙ ap (λ b. unwrap_or (cond b (Some s) (map.get m lane)) (fresh false)) (ap is_eq (tied_itself nat_cmp_total lane))

apart_lanes : (k l : ℕ) → (k ≡ l → ⊥) → eq_by_cmp nat_cmp k l ≡ false
apart_lanes k l other = none_tied (eq_by_cmp nat_cmp k l) (λ e. other (nat_cmp-IsAntisymmetric k l (tied _ e)))
  where
    none_tied : (b : Bool) → (b ≡ true → ⊥) → b ≡ false
    none_tied true f = absurd (f refl)
    none_tied false f = refl

lane_kept : (m : map.FinMap nat_cmp LaneState) (lane other : ℕ) (s : LaneState) → (other ≡ lane → ⊥) → unwrap_or (map.get (map.insert m lane s) other) (fresh false) ≡ unwrap_or (map.get m other) (fresh false)
lane_kept m lane other s apart =
    ap (λ o. unwrap_or o (fresh false)) (map.get-insert nat_cmp_total m lane s other)
    ∙ ap (λ b. unwrap_or (cond b (Some s) (map.get m other)) (fresh false)) (apart_lanes other lane apart)

-- the same write of a lane in the part and in the whole
lanes_alike : (m n : map.FinMap nat_cmp LaneState) (lane among other other_among : ℕ) (s : LaneState)
    → (other_among ≡ among → other ≡ lane) → (other ≡ lane → other_among ≡ among)
    → unwrap_or (map.get n other_among) (fresh false) ≡ unwrap_or (map.get m other) (fresh false)
    → unwrap_or (map.get (map.insert n among s) other_among) (fresh false) ≡ unwrap_or (map.get (map.insert m lane s) other) (fresh false)
lanes_alike m n lane among other other_among s back forth alike = pick (other == lane) refl
  where
    pick : (b : Bool) → (other == lane) ≡ b → unwrap_or (map.get (map.insert n among s) other_among) (fresh false) ≡ unwrap_or (map.get (map.insert m lane s) other) (fresh false)
    pick true e =
        let is = eqb-true other lane e in
        subst (λ k. unwrap_or (map.get (map.insert n among s) k) (fresh false) ≡ unwrap_or (map.get (map.insert m lane s) other) (fresh false)) (sym (forth is))
        (lane_written n among s ∙ sym (subst (λ k. unwrap_or (map.get (map.insert m lane s) k) (fresh false) ≡ s) (sym is) (lane_written m lane s)))
    pick false e =
        let apart : other ≡ lane → ⊥ = λ is. true≢false (sym (eq-eqb other lane is) ∙ e) in
        lane_kept n among other_among s (λ is. apart (back is)) ∙ alike ∙ sym (lane_kept m lane other s apart)

-- what becomes of the whole by one turn
record Together (number : ℕ → ℕ → ℕ) (server : ℕ) (part whole : World) (t : Turn) : Type 0 where
  pub step : Turn
  pub is : IsStep whole step
  pub event : step.event ≡ event_among number (at_server server t)
  pub outcome : step.outcome ≡ t.outcome
  pub site : step.after.site ≡ whole.site
  pub own : HasServer number server t.after step.after
  pub others : (r lane : ℕ) → (r ≡ server → ⊥) → lane_of step.after (number r lane) ≡ lane_of whole (number r lane)

module _ (number : ℕ → ℕ → ℕ) (apart : AreApart number) (server : ℕ) (part whole : World) (has : HasServer number server part whole) (t : Turn) where
  abbrev among : ℕ
  among = number server t.event.lane

  abbrev place : Event
  place = record { lane = number server t.event.lane; what = t.event.what }

  -- the world stays
  stays : t.after ≡ part → HasServer number server t.after whole
  stays e = subst (λ w. HasServer number server w whole) (sym e) has

  for_nobody : owner whole.site among ≡ None → t ≡ record { event = t.event; outcome = Silent; change = None; after = part } → Together number server part whole t
  for_nobody nobody e =
      let step : Turn = record { event = place; outcome = Silent; change = None; after = whole } in
      record {
        step = step;
        is = inl (subst (λ o. IsAnswerFor whole o step) (sym nobody) refl);
        event = refl;
        outcome = sym (ap (λ (z : Turn). z.outcome) e);
        site = refl;
        own = stays (ap (λ (z : Turn). z.after) e);
        others = λ r lane other. refl;
      }

  for_one : (u : ℕ) → owner whole.site among ≡ Some u → IsAnswerFor part (Some u) t → Together number server part whole t
  for_one u owned a =
      let effect : Effect = a.0 in
      let task : IsTask (lane_profile whole.site u) (lane_of whole among) t.event.what a.1 =
      subst (λ (how : LaneProfile). IsTask how (lane_of whole among) t.event.what a.1) (sym (has.spoken u)) (subst (λ s. IsTask (lane_profile part.site u) s t.event.what a.1) (sym (has.lanes t.event.lane)) a.2) in
      let does : Does (hosts whole.site u) (algorithms whole.site u) whole.table a.1 effect =
      subst (λ table. Does (hosts whole.site u) (algorithms whole.site u) table a.1 effect) (sym has.table)
      (subst (λ (hs : List Hosting). Does (λ p. hosts_among hs u p) (λ p. algorithm_among hs u p) part.table a.1 effect) (sym has.hostings) a.3) in
      let step : Turn = turn whole place effect in
      let after : t.after ≡ after_effect part t.event effect = ap (λ (z : Turn). z.after) a.4 in
      record {
        step = step;
        is = inl (subst (λ o. IsAnswerFor whole o step) (sym owned) (effect, a.1, task, does, refl));
        event = refl;
        outcome = sym (ap (λ (z : Turn). z.outcome) a.4);
        site = refl;
        own = subst (λ w. HasServer number server w (after_effect whole place effect)) (sym after) (record {
          owners = has.owners;
          hostings = has.hostings;
          spoken = has.spoken;
          table = ap (λ table. apply_if table (moment_of t.event.what) effect.change) has.table;
          lanes = λ lane. lanes_alike part.lanes whole.lanes t.event.lane among lane (number server lane) effect.state
              (λ is. (apart server server lane t.event.lane is).1) (λ is. ap (number server) is) (has.lanes lane);
        });
        others = λ r lane other. lane_kept whole.lanes among (number r lane) effect.state (λ is. other (apart r server lane t.event.lane is).0);
      }

  by_owner : (o : Option ℕ) → owner part.site t.event.lane ≡ o → IsAnswerFor part o t → Together number server part whole t
  by_owner None e a = for_nobody (has.owners t.event.lane ∙ e) a
  by_owner (Some u) e a = for_one u (has.owners t.event.lane ∙ e) a

  for_busy : IsBusy part t → Together number server part whole t
  for_busy b =
      let step : Turn = record { event = place; outcome = Busy (short_reply (response_number ServerBusy) (envelope_at b.received.bytes)); change = None; after = whole } in
      record {
        step = step;
        is = inr (record {
          received = b.received;
          frame_event = b.frame_event;
          frame = b.frame;
          owned = λ nobody. b.owned (sym (has.owners t.event.lane) ∙ nobody);
          is_open = subst (λ (s : LaneState). IsTrue s.is_open) (sym (has.lanes t.event.lane)) b.is_open;
          busy = refl;
        });
        event = refl;
        outcome = sym (ap (λ (z : Turn). z.outcome) b.busy);
        site = refl;
        own = stays (ap (λ (z : Turn). z.after) b.busy);
        others = λ r lane other. refl;
      }

  together : IsStep part t → Together number server part whole t
  together (inl a) = by_owner (owner part.site t.event.lane) refl a
  together (inr b) = for_busy b

-- all servers after the turn
module _ (number : ℕ → ℕ → ℕ) (worlds : ℕ → World) (whole : World) (has : HasAll number worlds whole) (p : ServerTurn) (it : Together number p.server (worlds p.server) whole p.step) where
  has_after : HasAll number (worlds_after worlds p) it.step.after
  has_after r = pick (r == p.server) refl
    where
      pick : (b : Bool) → (r == p.server) ≡ b → HasServer number r (cond b p.step.after (with_table (worlds r) p.step.after.table)) it.step.after
      pick true e = subst (λ s. HasServer number s p.step.after it.step.after) (sym (eqb-true r p.server e)) it.own
      pick false e =
          let other : r ≡ p.server → ⊥ = λ is. true≢false (sym (eq-eqb r p.server is) ∙ e) in
          record {
            owners = λ lane. ap (λ (s : Site). owner s (number r lane)) it.site ∙ (has r).owners lane;
            hostings = ap (λ (s : Site). s.hostings) it.site ∙ (has r).hostings;
            spoken = λ publisher. ap (λ (s : Site). lane_profile s publisher) it.site ∙ (has r).spoken publisher;
            table = it.own.table;
            lanes = λ lane. it.others r lane other ∙ (has r).lanes lane;
          }

pub turns_are_runs : TurnsAreRuns
turns_are_runs number worlds whole [] apart has steps = (whole, ([], tt, refl, refl, refl), has)
turns_are_runs number worlds whole (p ∷ ps) apart has steps =
    let it = together number apart p.server (worlds p.server) whole (has p.server) p.step steps.0 in
    let rest = turns_are_runs number (worlds_after worlds p) it.step.after ps apart (has_after number worlds whole has p it) steps.1 in
    let run = rest.1 in (
      rest.0,
      (it.step ∷ run.0, (it.is, run.1), (λ i. it.event i ∷ run.2 i), (λ i. it.outcome i ∷ run.3 i), run.4),
      rest.2,
    )
