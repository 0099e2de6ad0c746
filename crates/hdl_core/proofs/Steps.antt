-- The step that serving an event makes, and a run that goes on by a step.
use Rattle.std.proofs.Common.{◌≡◌, false, ℕ, ◌<◌, ◌≤◌, Bool, List, [], ◌∷◌, ◌++◌, Some, None, length, refl, sym, ap, ◌∙◌, subst, inl, inr, option_map}
use Rattle.std.proofs.lemmas.Option.{slice_get-get_or, slice_get_past}
use Rattle.hdl_frame.specs.Envelope.{envelope_at}
use Rattle.hdl_msg.specs.Reply.{short_reply}
use Rattle.hdl_rows.specs.Table.{Table}
use Rattle.hdl_tenants.specs.Register.{Register}
use Rattle.hdl_tenants.specs.Register as register
use Rattle.hdl_events.specs.declared.Event.{Event}
use Rattle.hdl_events.specs.declared.Outcome.{Outcome}
use Rattle.hdl_events.specs.declared.Outcome.TheVariants.{Busy, Silent}
use Rattle.hdl_laws.specs.Lanes.{LaneState, fresh}
use Rattle.std.specs.Prelude.{IsFalse}
use Rattle.hdl_laws.specs.Laws.{JoinsRuns, HostsNoRoot}
use Rattle.hdl_laws.specs.Runs.{HasRun, HasStep}
use Rattle.hdl_laws.specs.Worlds.{World, hosts, algorithms, owner, lane_of, lane_profile}
use Rattle.hdl_laws.specs.Tasks.{IsTask}
use Rattle.hdl_laws.specs.Effects.{Does}
use Rattle.hdl_laws.specs.Steps.{Turn, turn, IsAnswerFor}
use Rattle.hdl_core.specs.Held.{Held, held_at, with_state}
use Rattle.hdl_core.specs.Worlds.{world_of}
use Rattle.hdl_core.specs.Serving.{Scene, HandlesEventAt}
use Rattle.hdl_core.proofs.HeldLanes.{kept}
use Rattle.hdl_core.proofs.Places.{register_speech, speech_of, owner_of, lane_here, world_after}

-- what is held of a lane that nobody owns
abbrev nobody : Held
nobody = record { publisher = 0; state = fresh false }

hosted_in_world : (r : Register) (b : Bool) (lanes : List Held) (t : Table) (u : ℕ) → register.hosts r u ≡ hosts (world_of r b lanes t).site u
unfolding world_of
hosted_in_world r b lanes t u = refl

algorithms_in_world : (r : Register) (b : Bool) (lanes : List Held) (t : Table) (u : ℕ) → register.algorithm r u ≡ algorithms (world_of r b lanes t).site u
unfolding world_of
algorithms_in_world r b lanes t u = refl

table_of : (r : Register) (b : Bool) (lanes : List Held) (t : Table) (P : Table → Type 0) → P t → P (world_of r b lanes t).table
unfolding world_of
table_of r b lanes t P p = p

pub steps_alone : (r : Register) (b : Bool) (lanes : List Held) (t : Table) (e : Event) → length lanes ≤ e.lane → HasStep (world_of r b lanes t) e Silent (world_of r b lanes t)
steps_alone r b lanes t e past =
    let w = world_of r b lanes t in
    let it : Turn = record { event = e; outcome = Silent; change = None; after = w } in
    (it, inl (subst (λ o. IsAnswerFor w o it) (sym (owner_of r b lanes t e.lane ∙ ap (option_map (λ (x : Held). x.publisher)) (slice_get_past lanes e.lane past))) refl), refl, refl, refl)

-- what stands before an event of a lane of this publisher
abbrev pub scene : Register → Bool → Table → List Held → ℕ → Scene
scene r b t lanes publisher = record { context = record { lane_profile = register_speech r b publisher; hosts = register.hosts r publisher; algorithms = register.algorithm r publisher; table = t }; lanes = lanes }

pub steps_served : (r : Register) (b : Bool) (lanes lanes' : List Held) (t t' : Table) (e : Event) (o : Outcome) → e.lane < length lanes
    → HandlesEventAt (scene r b t lanes (held_at lanes e.lane).publisher) e.lane e.what o lanes' t'
    → HasStep (world_of r b lanes t) e o (world_of r b lanes' t')
steps_served r b lanes lanes' t t' e o h (s', after, inl a) =
    let w = world_of r b lanes t in
    let here = held_at lanes e.lane in
    let owned : owner w.site e.lane ≡ Some here.publisher = owner_of r b lanes t e.lane ∙ ap (option_map (λ (x : Held). x.publisher)) (slice_get-get_or lanes e.lane nobody h) in
    let task : IsTask (lane_profile w.site here.publisher) (lane_of w e.lane) e.what a.1 =
    subst (λ l. IsTask l (lane_of w e.lane) e.what a.1) (speech_of r b lanes t here.publisher) (subst (λ s. IsTask (register_speech r b here.publisher) s e.what a.1) (sym (lane_here r b lanes t e.lane nobody h)) a.2) in
    let does : Does (hosts w.site here.publisher) (algorithms w.site here.publisher) w.table a.1 a.0 =
    table_of r b lanes t (λ x. Does (hosts w.site here.publisher) (algorithms w.site here.publisher) x a.1 a.0)
    (subst (λ g. Does (hosts w.site here.publisher) g t a.1 a.0) (algorithms_in_world r b lanes t here.publisher)
    (subst (λ f. Does f (register.algorithm r here.publisher) t a.1 a.0) (hosted_in_world r b lanes t here.publisher) a.3)) in (
      turn w e a.0,
      inl (subst (λ x. IsAnswerFor w x (turn w e a.0)) (sym owned) (a.0, a.1, task, does, refl)),
      refl,
      sym a.4,
      sym (ap (λ (ls : List Held). world_of r b ls t') after ∙ world_after r b lanes t t' e (record { publisher = here.publisher; state = s' }) nobody a.0 h refl a.5 a.6),
    )
steps_served r b lanes lanes' t t' e o h (s', after, inr down) =
    let w = world_of r b lanes t in
    let here = held_at lanes e.lane in
    let it : Turn = record { event = e; outcome = Busy (short_reply 3 (envelope_at down.received.bytes)); change = None; after = w } in
    let owned : owner w.site e.lane ≡ Some here.publisher = owner_of r b lanes t e.lane ∙ ap (option_map (λ (x : Held). x.publisher)) (slice_get-get_or lanes e.lane nobody h) in
    let same : lanes' ≡ lanes = after ∙ ap (with_state lanes e.lane) down.lane_stays ∙ sym (kept lanes e.lane) in
    let stays : w ≡ world_of r b lanes' t' = λ i. world_of r b (sym same i) (sym down.table_stays i) in (
      it,
      inr (record {
        received = down.received;
        frame_event = down.frame_event;
        frame = down.frame;
        owned = λ none. absurd (some_is_some here.publisher (sym owned ∙ none));
        is_open = ap (λ (s : LaneState). s.is_open) (lane_here r b lanes t e.lane nobody h) ∙ down.is_open;
        busy = refl;
      }),
      refl,
      sym down.outcome,
      stays,
    )
  where
    some_is_some : (n : ℕ) → Some n ≡ None → ⊥
    some_is_some n e = cc

-- a run goes on by a step
pub run_step : (joins : JoinsRuns) (w mid new : World) (es : List Event) (os : List Outcome) (e : Event) (o : Outcome) → HasRun w es os mid → HasStep mid e o new → HasRun w (es ++ (e ∷ [])) (os ++ (o ∷ [])) new
run_step joins w mid new es os e o run s =
    joins w mid new es (e ∷ []) os (o ∷ []) run (s.0 ∷ [], (s.1, tt), ap (λ x. x ∷ []) s.2, ap (λ x. x ∷ []) s.3, s.4)

-- nobody hosts the prefix of the administrative handles
pub no_root : (r : Register) (b : Bool) (lanes : List Held) (t : Table) → ((place : ℕ) → IsFalse (register.hosts r place register.root)) → HostsNoRoot (world_of r b lanes t).site
unfolding world_of
no_root r b lanes t none = none
