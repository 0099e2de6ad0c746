-- What comes of a piece on an open lane.
use Rattle.std.proofs.Common.{◌≡◌, ℕ, ◌<◌, List, [], ◌∷◌, ◌++◌, Bool, true, false, cond, ◌==◌, Option, Some, None, length, set, refl, sym, ap, ◌∙◌, subst, true≢false}
use Rattle.std.proofs.lemmas.List.{get_or-set_same, set-set}
use Rattle.std.specs.Prelude.{is_none, is_some, nat_lt, find, drop}
use Rattle.hdl_auth.specs.declared.algorithm.Algorithm.{Algorithm}
use Rattle.hdl_auth.specs.declared.algorithm.Algorithm.TheVariants.{Sha1}
use Rattle.hdl_auth.specs.Digest.{algorithm_of}
use Rattle.hdl_frame.specs.Envelope.{envelope_at}
use Rattle.hdl_msg.specs.Message.{Content, SpellsRequest}
use Rattle.hdl_msg.specs.Reply.{short_reply}
use Rattle.hdl_pool.specs.declared.piece.MessageKey.{MessageKey}
use Rattle.hdl_pool.specs.Partial.{Partial, key_of, piece_of, is_of}
use Rattle.hdl_pool.specs.Taking.{Fate, made_whole, kept, ignored, displaced, so_far, after_piece, replace_partial, store_partial, begin_partial, store_if_kept, take_piece, whole_message, free_partial}
use Rattle.hdl_laws.specs.LaneProfile.{LaneProfile}
use Rattle.hdl_rows.specs.Table.{Table}
use Rattle.hdl_ops.specs.Admission.{request_algorithm}
use Rattle.hdl_ops.specs.Decisions.{Decision, failure, site_decision}
use Rattle.hdl_ops.specs.Requests.{Response, response_of}
use Rattle.hdl_slots.specs.declared.pending.Pending.{Pending}
use Rattle.hdl_slots.specs.Lanes.{challenge_of}
use Rattle.hdl_msg.specs.declared.replies.ReplyContent.TheVariants.{Empty}
use Rattle.hdl_events.specs.declared.Outcome.TheVariants.{Reply, Silent}
use Rattle.hdl_laws.specs.Lanes.{LaneState, fresh, with_partials}
use Rattle.hdl_laws.specs.Tasks as tasks
use Rattle.hdl_laws.specs.Tasks.{Received, Task, Ignore, Malformed, Unknown, Late, Deny, Ask, Inform, Redeem, told_site, ask_task, request_task, is_denied, is_late, without_challenge, due_task, redeem_task, IsReading, IsResponseTask, IsRequestTask, IsContentTask, IsMessageTask, IsWholeTask}
use Rattle.hdl_laws.specs.Effects.{Effect, answer_effect, challenge_effect, ask_effect, Does}
use Rattle.hdl_core.specs.declared.origin.Origin.{Origin}
use Rattle.hdl_core.specs.Held.{Held, held_at, state_at, with_state}
use Rattle.hdl_core.specs.Serving.{Context, Scene, received_as, message_as, HandlesMessageAt, AssemblesAt}
use Rattle.hdl_core.proofs.HeldLanes as held_lanes
use Rattle.hdl_ops.specs.Tables.{apply_if}

-- ---- a lane whose partial messages are others hears a message as it did

-- the same on a lane with these partial messages
record Moved (lane_profile : LaneProfile) (hosts : List ℕ → Bool) (algorithms : List ℕ → Algorithm) (t : Table) (s : LaneState) (p : List Partial) (m : tasks.Message) (eff : Effect) : Type 0 where
  task : Task
  is_task : IsMessageTask lane_profile (with_partials s p) m task
  effect : Effect
  does : Does hosts algorithms t task effect
  outcome : effect.outcome ≡ eff.outcome
  state : effect.state ≡ with_partials eff.state p
  change : effect.change ≡ eff.change
  same : eff.state.partials ≡ s.partials

module _ (lane_profile : LaneProfile) (hosts : List ℕ → Bool) (algorithms : List ℕ → Algorithm) (t : Table) (s : LaneState) (p : List Partial) (m : tasks.Message) where
  garbled : (o : Option Content) → IsReading (SpellsRequest lane_profile.wire m.message) o → o ≡ None → (eff : Effect) → Does hosts algorithms t (Malformed m s) eff → Moved lane_profile hosts algorithms t s p m eff
  garbled o reading is eff does = record {
    task = Malformed m (with_partials s p);
    is_task = (o, reading, subst (λ x. IsContentTask lane_profile (with_partials s p) m x (Malformed m (with_partials s p))) (sym is) refl);
    effect = record { outcome = Reply (short_reply 4 m.envelope); state = with_partials s p; change = None };
    does = refl;
    outcome = sym (ap (λ (e : Effect). e.outcome) does);
    state = sym (ap (λ (e : Effect). with_partials e.state p) does);
    change = sym (ap (λ (e : Effect). e.change) does);
    same = ap (λ (e : Effect). e.state.partials) does;
  }

  -- a request that isn't denied
  asks : (r : Content) (o : Option (List ℕ)) → told_site lane_profile.site r.operation ≡ o → is_denied lane_profile.takes_changes r.operation ≡ false → ask_task (with_partials s p) m r o ≡ request_task lane_profile (with_partials s p) m r
  asks r o told allowed = λ i. cond {A = Task} (sym allowed i) (Deny m r (with_partials s p)) (ask_task (with_partials s p) m r (sym told i))

  asked : (r : Content) → SpellsRequest lane_profile.wire m.message r → response_of r.operation ≡ None → told_site lane_profile.site r.operation ≡ None → is_denied lane_profile.takes_changes r.operation ≡ false → (eff : Effect) → Does hosts algorithms t (Ask m r s) eff → Moved lane_profile hosts algorithms t s p m eff
  asked r spells is told allowed eff (d, decides, does) = record {
    task = Ask m r (with_partials s p);
    is_task = (Some r, spells, subst (λ x. IsRequestTask lane_profile (with_partials s p) m r x (Ask m r (with_partials s p))) (sym is) (asks r None told allowed));
    effect = ask_effect alg (with_partials s p) m r d;
    does = (d, decides, refl);
    outcome = outcome_by (d.code == 402) ∙ sym (ap (λ (e : Effect). e.outcome) does);
    state = state_by (d.code == 402) ∙ sym (ap (λ (e : Effect). with_partials e.state p) does);
    change = change_by (d.code == 402) ∙ sym (ap (λ (e : Effect). e.change) does);
    same = ap (λ (e : Effect). e.state.partials) does ∙ same_by (d.code == 402);
  }
    where
      alg : Algorithm
      alg = request_algorithm algorithms r

      outcome_by : (b : Bool) → (cond {A = Effect} b (challenge_effect alg (with_partials s p) m r) (answer_effect alg (with_partials s p) m r d)).outcome ≡ (cond {A = Effect} b (challenge_effect alg s m r) (answer_effect alg s m r d)).outcome
      outcome_by true = refl
      outcome_by false = refl

      state_by : (b : Bool) → (cond {A = Effect} b (challenge_effect alg (with_partials s p) m r) (answer_effect alg (with_partials s p) m r d)).state ≡ with_partials (cond {A = Effect} b (challenge_effect alg s m r) (answer_effect alg s m r d)).state p
      state_by true = refl
      state_by false = refl

      change_by : (b : Bool) → (cond {A = Effect} b (challenge_effect alg (with_partials s p) m r) (answer_effect alg (with_partials s p) m r d)).change ≡ (cond {A = Effect} b (challenge_effect alg s m r) (answer_effect alg s m r d)).change
      change_by true = refl
      change_by false = refl

      same_by : (b : Bool) → (cond {A = Effect} b (challenge_effect alg s m r) (answer_effect alg s m r d)).state.partials ≡ s.partials
      same_by true = refl
      same_by false = refl

  -- an answer that keeps the partial messages
  replied : (k' : Task) (a : Algorithm) (r : Content) (d : Decision) (here here' : LaneState) (eff : Effect) → IsMessageTask lane_profile (with_partials s p) m k' → here' ≡ with_partials here p → here.partials ≡ s.partials
      → eff ≡ answer_effect a here m r d → Does hosts algorithms t k' (answer_effect a here' m r d) → Moved lane_profile hosts algorithms t s p m eff
  replied k' a r d here here' eff task moved same is does = record {
    task = k';
    is_task = task;
    effect = answer_effect a here' m r d;
    does = does;
    outcome = sym (ap (λ (e : Effect). e.outcome) is);
    state = moved ∙ sym (ap (λ (e : Effect). with_partials e.state p) is);
    change = sym (ap (λ (e : Effect). e.change) is);
    same = ap (λ (e : Effect). e.state.partials) is ∙ same;
  }

  informs : (r : Content) (site : List ℕ) → SpellsRequest lane_profile.wire m.message r → response_of r.operation ≡ None → told_site lane_profile.site r.operation ≡ Some site → is_denied lane_profile.takes_changes r.operation ≡ false → (eff : Effect) → Does hosts algorithms t (Inform m r site s) eff
      → Moved lane_profile hosts algorithms t s p m eff
  informs r site spells is told allowed eff does =
      replied (Inform m r site (with_partials s p)) Sha1 r (site_decision Sha1 r site) s (with_partials s p) eff
      (Some r, spells, subst (λ x. IsRequestTask lane_profile (with_partials s p) m r x (Inform m r site (with_partials s p))) (sym is) (asks r (Some site) told allowed)) refl refl does refl

  denies : (r : Content) → SpellsRequest lane_profile.wire m.message r → response_of r.operation ≡ None → is_denied lane_profile.takes_changes r.operation ≡ true → (eff : Effect) → Does hosts algorithms t (Deny m r s) eff → Moved lane_profile hosts algorithms t s p m eff
  denies r spells is never eff does =
      replied (Deny m r (with_partials s p)) (request_algorithm algorithms r) r (failure 5 Empty) s (with_partials s p) eff (
        Some r,
        spells,
        subst (λ x. IsRequestTask lane_profile (with_partials s p) m r x (Deny m r (with_partials s p))) (sym is)
            (λ i. cond {A = Task} (sym never i) (Deny m r (with_partials s p)) (ask_task (with_partials s p) m r (told_site lane_profile.site r.operation))),
      )
      refl refl does refl

  found : (r : Content) (a : Response) (c : Pending) (o : Option Content) → SpellsRequest lane_profile.wire m.message r → response_of r.operation ≡ Some a → challenge_of s.challenges.challenges m.peer m.envelope.session ≡ Some c
      → IsReading (SpellsRequest lane_profile.wire c.message) o → IsMessageTask lane_profile (with_partials s p) m (redeem_task lane_profile.takes_changes (with_partials s p) m a c o)
  found r a c o spells is there reading = (
    Some r,
    spells,
    subst (λ x. IsRequestTask lane_profile (with_partials s p) m r x (redeem_task lane_profile.takes_changes (with_partials s p) m a c o)) (sym is)
        (subst (λ x. IsResponseTask lane_profile (with_partials s p) m r a x (redeem_task lane_profile.takes_changes (with_partials s p) m a c o)) (sym there) (o, reading, refl)),
  )

  redeems : (r : Content) (a : Response) (c : Pending) (o : Option Content) → SpellsRequest lane_profile.wire m.message r → response_of r.operation ≡ Some a → challenge_of s.challenges.challenges m.peer m.envelope.session ≡ Some c
      → IsReading (SpellsRequest lane_profile.wire c.message) o → (eff : Effect) → Does hosts algorithms t (redeem_task lane_profile.takes_changes s m a c o) eff → Moved lane_profile hosts algorithms t s p m eff
  redeems r a c None spells is there reading eff does = record {
    task = Malformed m (without_challenge (with_partials s p) m);
    is_task = found r a c None spells is there reading;
    effect = record { outcome = Reply (short_reply 4 m.envelope); state = without_challenge (with_partials s p) m; change = None };
    does = refl;
    outcome = sym (ap (λ (e : Effect). e.outcome) does);
    state = sym (ap (λ (e : Effect). with_partials e.state p) does);
    change = sym (ap (λ (e : Effect). e.change) does);
    same = ap (λ (e : Effect). e.state.partials) does;
  }
  redeems r a c (Some q) spells is there reading eff does = by_denial (is_denied lane_profile.takes_changes q.operation) refl does
    where
      answers : (b : Bool) → is_denied lane_profile.takes_changes q.operation ≡ b → (g : Algorithm) (d : Decision) → eff ≡ answer_effect g (without_challenge s m) m q d
          → Does hosts algorithms t (cond {A = Task} b (Deny m q (without_challenge (with_partials s p) m)) (due_task (without_challenge (with_partials s p) m) m a c q)) (answer_effect g (without_challenge (with_partials s p) m) m q d) → Moved lane_profile hosts algorithms t s p m eff
      answers b e g d same done =
          replied (redeem_task lane_profile.takes_changes (with_partials s p) m a c (Some q)) g q d (without_challenge s m) (without_challenge (with_partials s p) m) eff (found r a c (Some q) spells is there reading) refl refl same
          (subst (λ x. Does hosts algorithms t (cond {A = Task} x (Deny m q (without_challenge (with_partials s p) m)) (due_task (without_challenge (with_partials s p) m) m a c q)) (answer_effect g (without_challenge (with_partials s p) m) m q d)) (sym e) done)

      by_time : (b : Bool) → is_denied lane_profile.takes_changes q.operation ≡ false → is_late m c ≡ b → Does hosts algorithms t (cond b (Late m q (algorithm_of c.digest) (without_challenge s m)) (Redeem m q (record { response = a; nonce = c.nonce; digest = c.digest }) (without_challenge s m))) eff → Moved lane_profile hosts algorithms t s p m eff
      by_time true allowed late does =
          answers false allowed (algorithm_of c.digest) (failure 405 Empty) does
          (subst (λ b. Does hosts algorithms t (cond b (Late m q (algorithm_of c.digest) (without_challenge (with_partials s p) m)) (Redeem m q (record { response = a; nonce = c.nonce; digest = c.digest }) (without_challenge (with_partials s p) m))) (answer_effect (algorithm_of c.digest) (without_challenge (with_partials s p) m) m q (failure 405 Empty))) (sym late) refl)
      by_time false allowed late (d, decides, does) =
          answers false allowed (algorithm_of c.digest) d does
          (subst (λ b. Does hosts algorithms t (cond b (Late m q (algorithm_of c.digest) (without_challenge (with_partials s p) m)) (Redeem m q (record { response = a; nonce = c.nonce; digest = c.digest }) (without_challenge (with_partials s p) m))) (answer_effect (algorithm_of c.digest) (without_challenge (with_partials s p) m) m q d)) (sym late) (d, decides, refl))

      by_denial : (b : Bool) → is_denied lane_profile.takes_changes q.operation ≡ b → Does hosts algorithms t (cond {A = Task} b (Deny m q (without_challenge s m)) (due_task (without_challenge s m) m a c q)) eff → Moved lane_profile hosts algorithms t s p m eff
      by_denial true e does = answers true e (request_algorithm algorithms q) (failure 5 Empty) does refl
      by_denial false e does = by_time (is_late m c) e refl does

  responded : (r : Content) (a : Response) (o : Option Pending) (k : Task) → SpellsRequest lane_profile.wire m.message r → response_of r.operation ≡ Some a → challenge_of s.challenges.challenges m.peer m.envelope.session ≡ o
      → IsResponseTask lane_profile s m r a o k → (eff : Effect) → Does hosts algorithms t k eff → Moved lane_profile hosts algorithms t s p m eff
  responded r a None k spells is there task eff does =
      replied (Unknown m r (with_partials s p)) Sha1 r (failure 4 Empty) s (with_partials s p) eff
      (Some r, spells, subst (λ x. IsRequestTask lane_profile (with_partials s p) m r x (Unknown m r (with_partials s p))) (sym is) (subst (λ x. IsResponseTask lane_profile (with_partials s p) m r a x (Unknown m r (with_partials s p))) (sym there) refl))
      refl refl (subst (λ x. Does hosts algorithms t x eff) task does) refl
  responded r a (Some c) k spells is there (o, reading, task) eff does = redeems r a c o spells is there reading eff (subst (λ x. Does hosts algorithms t x eff) task does)

  requested : (r : Content) (o : Option Response) (k : Task) → SpellsRequest lane_profile.wire m.message r → response_of r.operation ≡ o → IsRequestTask lane_profile s m r o k → (eff : Effect) → Does hosts algorithms t k eff → Moved lane_profile hosts algorithms t s p m eff
  requested r None k spells is task eff does = by_denial (is_denied lane_profile.takes_changes r.operation) refl (subst (λ x. Does hosts algorithms t x eff) task does)
    where
      by : (o : Option (List ℕ)) → told_site lane_profile.site r.operation ≡ o → is_denied lane_profile.takes_changes r.operation ≡ false → Does hosts algorithms t (ask_task s m r o) eff → Moved lane_profile hosts algorithms t s p m eff
      by None told allowed does = asked r spells is told allowed eff does
      by (Some site) told allowed does = informs r site spells is told allowed eff does

      by_denial : (b : Bool) → is_denied lane_profile.takes_changes r.operation ≡ b → Does hosts algorithms t (cond {A = Task} b (Deny m r s) (ask_task s m r (told_site lane_profile.site r.operation))) eff → Moved lane_profile hosts algorithms t s p m eff
      by_denial true e does = denies r spells is e eff does
      by_denial false e does = by (told_site lane_profile.site r.operation) refl e does
  requested r (Some a) k spells is task eff does = responded r a (challenge_of s.challenges.challenges m.peer m.envelope.session) k spells is refl task eff does

  moved : (k : Task) → IsMessageTask lane_profile s m k → (eff : Effect) → Does hosts algorithms t k eff → Moved lane_profile hosts algorithms t s p m eff
  moved k (None, reading, task) eff does = garbled None reading refl eff (subst (λ x. Does hosts algorithms t x eff) task does)
  moved k (Some r, reading, task) eff does = requested r (response_of r.operation) k reading refl task eff does

-- ---- a piece that makes its message whole leaves the partial messages as they were

not_whole : (f : Fate) (message : List ℕ) → whole_message f ≡ None → f ≡ made_whole message → ⊥
not_whole f message none is = true≢false (sym (ap is_none none) ∙ ap (λ x. is_none (whole_message x)) is)

pick : (b : Bool) (x y : Fate × List Partial) → whole_message x.0 ≡ None → whole_message y.0 ≡ None → whole_message (cond b x y).0 ≡ None
pick true x y h g = h
pick false x y h g = g

stored_kept : (lane : List Partial) (key : MessageKey) (more : Partial) → whole_message (store_partial lane key more).0 ≡ None
stored_kept lane key more =
    pick (is_some (find (is_of key) lane)) (kept, replace_partial key more lane) (begin_partial lane more) refl (pick (nat_lt (length lane) 4) (kept, lane ++ more ∷ []) (displaced, drop 1 lane ++ more ∷ []) refl refl)

whole_stays : (lane : List Partial) (key : MessageKey) (f : Fate) (more : Partial) (message : List ℕ) → (store_if_kept lane key f more).0 ≡ made_whole message → (store_if_kept lane key f more).1 ≡ lane
whole_stays lane key kept more message is = absurd (not_whole (store_partial lane key more).0 message (stored_kept lane key more) is)
whole_stays lane key (made_whole other) more message is = refl
whole_stays lane key ignored more message is = refl
whole_stays lane key displaced more message is = refl

-- ---- a piece

module _ (lane_profile : LaneProfile) (hosts : List ℕ → Bool) (algorithms : List ℕ → Algorithm) (t : Table) (lanes : List Held) (number : ℕ) (m : Origin) (bytes : List ℕ) (envelope : m.envelope ≡ envelope_at bytes) where
  abbrev context : Context
  context = record { lane_profile = lane_profile; hosts = hosts; algorithms = algorithms; table = t }

  abbrev scene : Scene
  scene = record { context = context; lanes = lanes }

  abbrev x : Received
  x = received_as m bytes

  abbrev here : LaneState
  here = state_at lanes number

  abbrev after : Fate × List Partial
  after = take_piece (state_at lanes number).partials (piece_of m.peer bytes)

  pub waits : (f : Fate) (lanes' : List Held) → whole_message f ≡ None → f ≡ (take_piece (state_at lanes number).partials (piece_of m.peer bytes)).0
      → lanes' ≡ with_state lanes number (with_partials (state_at lanes number) (take_piece (state_at lanes number).partials (piece_of m.peer bytes)).1)
      → AssemblesAt scene number (received_as m bytes) None lanes' t
  waits f lanes' none is same = (
    with_partials here after.1,
    same,
    (
      record { outcome = Silent; state = with_partials here after.1; change = None },
      Ignore (with_partials here after.1),
      subst (λ o. IsWholeTask lane_profile (with_partials here after.1) (with_partials here (free_partial here.partials (key_of m.peer (envelope_at bytes)))) x o (Ignore (with_partials here after.1))) (sym none ∙ ap whole_message is) refl,
      refl,
      refl,
      refl,
      refl,
    ),
  )

  -- the lanes are as they were where the piece made its message whole
  pub unchanged : (message : List ℕ) (lanes' : List Held) → made_whole message ≡ (take_piece (state_at lanes number).partials (piece_of m.peer bytes)).0
      → lanes' ≡ with_state lanes number (with_partials (state_at lanes number) (take_piece (state_at lanes number).partials (piece_of m.peer bytes)).1) → lanes' ≡ lanes
  unchanged message lanes' is same =
      let piece = piece_of m.peer bytes in
      let grew = after_piece (so_far here.partials piece) piece in
      let stays : after.1 ≡ here.partials = whole_stays here.partials piece.key grew.0 grew.1 message (sym is) in
      same ∙ ap (λ p. with_state lanes number (with_partials here p)) stays ∙ sym (held_lanes.kept lanes number)

  pub whole : (message octets : List ℕ) (lanes' lanes'' : List Held) (t' : Table) → number < length lanes → made_whole message ≡ (take_piece (state_at lanes number).partials (piece_of m.peer bytes)).0
      → HandlesMessageAt scene number (message_as m message) octets lanes' t'
      → lanes'' ≡ with_state lanes' number (with_partials (state_at lanes' number) (free_partial (state_at lanes' number).partials (key_of m.peer m.envelope)))
      → AssemblesAt scene number (received_as m bytes) (Some octets) lanes'' t'
  whole message octets lanes' lanes'' t' there is (s', same, (k, task, (eff, does, out, state, table))) free =
      let key = key_of m.peer (envelope_at bytes) in
      let gone = free_partial here.partials key in
      let mv = moved lane_profile hosts algorithms t here gone (message_as m message) k task eff does in
      let now : state_at lanes' number ≡ s' = ap (λ (ls : List Held). state_at ls number) same ∙ ap (λ (h : Held). h.state) (get_or-set_same lanes number (record { publisher = (held_at lanes number).publisher; state = s' }) (record { publisher = 0; state = fresh false }) there) in
      let kept_partials : (state_at lanes' number).partials ≡ here.partials = ap (λ (s : LaneState). s.partials) (now ∙ sym state) ∙ mv.same in
      let freed_now : with_partials (state_at lanes' number) (free_partial (state_at lanes' number).partials (key_of m.peer m.envelope)) ≡ with_partials s' gone =
      λ i. with_partials (now i) (free_partial (kept_partials i) (key_of m.peer (envelope i))) in
      let owner : (held_at lanes' number).publisher ≡ (held_at lanes number).publisher =
      ap (λ (ls : List Held). (held_at ls number).publisher) same ∙ ap (λ (h : Held). h.publisher) (get_or-set_same lanes number (record { publisher = (held_at lanes number).publisher; state = s' }) (record { publisher = 0; state = fresh false }) there) in (
        with_partials s' gone,
        free
            ∙ (λ i. set (same i) number (record { publisher = owner i; state = freed_now i }))
            ∙ set-set lanes number (record { publisher = (held_at lanes number).publisher; state = s' }) (record { publisher = (held_at lanes number).publisher; state = with_partials s' gone }),
        (
          mv.effect,
          mv.task,
          subst (λ o. IsWholeTask lane_profile (with_partials here after.1) (with_partials here gone) x o mv.task) (ap whole_message is)
              (subst (λ (l : tasks.Message). IsMessageTask lane_profile (with_partials here gone) l mv.task) (λ i. record { peer = m.peer; moment = m.moment; nonce = m.nonce; envelope = envelope i; message = message }) mv.is_task),
          mv.does,
          mv.outcome ∙ out,
          mv.state ∙ ap (λ (s : LaneState). with_partials s gone) state,
          table ∙ ap (apply_if t m.moment) (sym mv.change),
        ),
      )
