-- What comes of a message on an open lane.
use Rattle.std.proofs.Common.{◌≡◌, ℕ, List, [], Bool, true, false, cond, Option, Some, None, Result, Ok, Err, refl, sym, ap, ◌∙◌, subst}
use Rattle.std.specs.Prelude.{IfOk, MatchOption, OnOk, OnErr}
use Rattle.std.specs.Borrow.{Bor}
use Rattle.hdl_auth.specs.declared.algorithm.Algorithm.{Algorithm}
use Rattle.hdl_auth.specs.declared.algorithm.Algorithm.TheVariants.{Sha1}
use Rattle.hdl_auth.specs.Digest.{algorithm_of}
use Rattle.hdl_auth.specs.declared.algorithm.Digest.{Digest}
use Rattle.hdl_msg.specs.declared.codes.OpCode.TheVariants.{GetSiteInfo}
use Rattle.hdl_msg.specs.Codes.{response_number, IsNumberOf}
use Rattle.hdl_msg.specs.Message.{Content, SpellsRequest, Operation, resolution, site_info, create, delete, add, remove, modify, list, response, other, code_of}
use Rattle.hdl_msg.specs.Reply.{short_reply, reply_parts, IsAnnounced}
use Rattle.hdl_msg.specs.declared.replies.ReplyContent.TheVariants.{Empty}
use Rattle.hdl_laws.specs.LaneProfile.{LaneProfile}
use Rattle.hdl_rows.specs.Table.{Table}
use Rattle.hdl_slots.specs.declared.pending.Pending.{Pending}
use Rattle.hdl_slots.specs.Lanes.{challenge_of, add_challenge}
use Rattle.hdl_ops.specs.Admission.{request_algorithm}
use Rattle.hdl_ops.specs.declared.decision.HashedRequest.{HashedRequest}
use Rattle.hdl_ops.specs.declared.owner.Owner.{Owner}
use Rattle.hdl_ops.specs.Decisions.{Level, Decision, Decides, Proven, failure, site_decision}
use Rattle.hdl_ops.specs.Proven.{Proof}
use Rattle.hdl_ops.specs.Requests.{Response, response_of}
use Rattle.hdl_ops.specs.Tables.{apply_if}
use Rattle.hdl_ops.specs.Replies.{reply_to}
use Rattle.hdl_ops.specs.declared.decision.Decision as code
use Rattle.hdl_ops.proofs.SiteDecisions.{site_announced, site_changes_nothing}
use Rattle.hdl_ops.specs.Views.{decision_of, hosted_by}
use Rattle.hdl_events.specs.declared.Outcome.TheVariants.{Reply}
use Rattle.hdl_laws.specs.Lanes.{LaneState}
use Rattle.hdl_laws.specs.Tasks.{Task, Malformed, Unknown, Late, Deny, Ask, Inform, Redeem, told_site, ask_task, request_task, is_denied, is_late, without_challenge, due_task, redeem_task, IsResponseTask, IsRequestTask, IsMessageTask}
use Rattle.hdl_laws.specs.Effects.{answer_octets, challenge_octets, Effect, pending, answer_effect, challenge_effect, Does}
use Rattle.hdl_core.specs.declared.origin.Origin.{Origin}
use Rattle.hdl_core.specs.declared.messages.RequestResult.{RequestResult}
use Rattle.hdl_core.specs.declared.messages.RequestResult.TheVariants.{Answered, Challenged}
use Rattle.hdl_core.specs.Held.{Held, state_at, with_state}
use Rattle.hdl_core.specs.Serving.{Context, Scene, message_as, IsDenied, IsDecidedForAnyone, IsInformed, Replies, IsRedeemed, RespondsAt, HandlesMessageAt}
use Rattle.hdl_core.proofs.HeldLanes.{kept}

pub on_ok : {X E : Type 0} (r : Result X E) (P S : X → Type 0) → ((x : X) → P x → S x) → IfOk r P → IfOk r S
on_ok (Ok x) P S f p = f x p
on_ok (Err e) P S f p = tt

pub on_both : {X E : Type 0} (r : Result X E) (P S : X → Type 0) (Q : Type 0) → ((x : X) → P x → Q → S x) → IfOk r P → OnOk r Q → IfOk r S
on_both (Ok x) P S Q f p q = f x p q
on_both (Err e) P S Q f p q = tt

pub on_any_err : {X E : Type 0} (r : Result X E) (P : Type 0) → P → OnErr r P
on_any_err (Ok x) P p = tt
on_any_err (Err e) P p = p

-- a decision about what a named request asks, by the prefixes of its owner
pub named_decides : {o owner : Bor Owner} {x asked : HashedRequest} (t : Table) (level : Level) (d : Decision) → o ≡ owner → x ≡ asked
    → Decides (hosted_by o.now) x.algorithm t x.request.now level d → Decides (hosted_by owner.now) asked.algorithm t asked.request.now level d
named_decides {o} {owner} {x} {asked} t level d same is decided =
    subst (λ (y : HashedRequest). Decides (hosted_by owner.now) y.algorithm t y.request.now level d) is
    (subst (λ (p : Bor Owner). Decides (hosted_by p.now) x.algorithm t x.request.now level d) same decided)

-- ---- a question for site information

pub if_some : {X : Type 0} (o : Option X) (N : Type 0) (S : X → Type 0) (x : X) → o ≡ Some x → MatchOption o N S → S x
if_some o N S x is m = subst (λ y. MatchOption y N S) is m

pub if_none : {X : Type 0} (o : Option X) (N : Type 0) (S : X → Type 0) → o ≡ None → MatchOption o N S → N
if_none o N S is m = subst (λ y. MatchOption y N S) is m

-- only such a question is answered by it
pub asks_site : (site : Option (List ℕ)) (o : Operation) (n : ℕ) (x : List ℕ) → told_site site o ≡ Some x → IsNumberOf (code_of o) n → IsNumberOf (Some GetSiteInfo) n
asks_site site (site_info octets) n x is has = has
asks_site site (resolution handle indexes types) n x is has = absurd cc
asks_site site (create handle values) n x is has = absurd cc
asks_site site (delete handle) n x is has = absurd cc
asks_site site (add handle values) n x is has = absurd cc
asks_site site (remove handle indexes) n x is has = absurd cc
asks_site site (modify handle values) n x is has = absurd cc
asks_site site (list handle) n x is has = absurd cc
asks_site site (response kind handle index answer) n x is has = absurd cc
asks_site site (other octets) n x is has = absurd cc

module _ (m : Origin) (r : Content) (site : List ℕ) (d : code.Decision) (decided : decision_of d ≡ site_decision Sha1 r site) where
  pub site_answer : (octets : List ℕ) → octets ≡ answer_octets Sha1 m.moment m.envelope r (response_number d.code) d.content → IsInformed m r site octets
  site_answer octets is = is ∙ ap (λ (x : Decision). answer_octets Sha1 m.moment m.envelope r x.code x.content) decided

  pub site_answer_announced : IsNumberOf (Some GetSiteInfo) r.header.op_code → IsAnnounced (reply_parts (reply_to Sha1 m.moment m.envelope.session m.envelope.request r (response_number d.code) d.content))
  site_answer_announced has =
      subst (λ (x : Decision). IsAnnounced (reply_parts (reply_to Sha1 m.moment m.envelope.session m.envelope.request r x.code x.content))) (sym decided)
      (site_announced Sha1 r site m.moment m.envelope.session m.envelope.request has)

abbrev IsTold : Algorithm → Origin → Content → ℕ → List ℕ → Type 0
IsTold a m r code octets = octets ≡ answer_octets a m.moment m.envelope r code Empty

module _ (lane_profile : LaneProfile) (hosts : List ℕ → Bool) (algorithms : List ℕ → Algorithm) (t : Table) (m : Origin) where
  abbrev context : Context
  context = record { lane_profile = lane_profile; hosts = hosts; algorithms = algorithms; table = t }

  told : (k : Task) (a : Algorithm) (r : Content) (code : ℕ) (s : LaneState) (message octets : List ℕ) → Does hosts algorithms t k (answer_effect a s (message_as m message) r (failure code Empty)) → IsTold a m r code octets
      → Replies context m.moment k octets s t
  told k a r code s message octets does is = (answer_effect a s (message_as m message) r (failure code Empty), does, ap Reply (sym is), refl, refl)

  garbled : (s : LaneState) (message octets : List ℕ) → octets ≡ short_reply 4 m.envelope → Replies context m.moment (Malformed (message_as m message) s) octets s t
  garbled s message octets is = (record { outcome = Reply (short_reply 4 m.envelope); state = s; change = None }, refl, ap Reply (sym is), refl, refl)

  -- ---- a challenge response

  let_through : (a : Response) (p : Pending) (r : Content) (s' : LaneState) (message octets : List ℕ) (t' : Table) → false ≡ is_denied lane_profile.takes_changes r.operation → Replies context m.moment (due_task s' (message_as m message) a p r) octets s' t'
      → Replies context m.moment (cond {A = Task} (is_denied lane_profile.takes_changes r.operation) (Deny (message_as m message) r s') (due_task s' (message_as m message) a p r)) octets s' t'
  let_through a p r s' message octets t' allowed replies =
      subst (λ b. Replies context m.moment (cond {A = Task} b (Deny (message_as m message) r s') (due_task s' (message_as m message) a p r)) octets s' t') allowed replies

  pub denied_later : (a : Response) (p : Pending) (r : Content) (octets : List ℕ) → SpellsRequest lane_profile.wire p.message r → true ≡ is_denied lane_profile.takes_changes r.operation → IsDenied algorithms m r octets → IsRedeemed context m a p octets t
  denied_later a p r octets spells denied is = λ s message.
      let s' = without_challenge s (message_as m message) in (
        Some r,
        spells,
        subst (λ b. Replies context m.moment (cond {A = Task} b (Deny (message_as m message) r s') (due_task s' (message_as m message) a p r)) octets s' t) denied
            (told (Deny (message_as m message) r s') (request_algorithm algorithms r) r 5 s' message octets refl is),
      )

  pub unreadable : (a : Response) (p : Pending) (octets : List ℕ) → ((r : Content) → SpellsRequest lane_profile.wire p.message r → ⊥) → octets ≡ short_reply 4 m.envelope → IsRedeemed context m a p octets t
  unreadable a p octets none is = λ s message. (None, none, garbled (without_challenge s (message_as m message)) message octets is)

  pub late : (a : Response) (p : Pending) (r : Content) (g : Algorithm) (octets : List ℕ) → g ≡ algorithm_of p.digest → SpellsRequest lane_profile.wire p.message r → false ≡ is_denied lane_profile.takes_changes r.operation → ((message : List ℕ) → true ≡ is_late (message_as m message) p) → IsTold g m r 405 octets
      → IsRedeemed context m a p octets t
  late a p r g octets hash spells allowed after is = λ s message.
      let s' = without_challenge s (message_as m message) in
      let proof : Proof = record { response = a; nonce = p.nonce; digest = p.digest } in (
        Some r,
        spells,
        let_through a p r s' message octets t allowed (subst (λ b. Replies context m.moment (cond b (Late (message_as m message) r (algorithm_of p.digest) s') (Redeem (message_as m message) r proof s')) octets s' t) (after message) (told (Late (message_as m message) r (algorithm_of p.digest) s') (algorithm_of p.digest) r 405 s' message octets refl (subst (λ h. IsTold h m r 405 octets) hash is))),
      )

  pub proven : (a : Response) (p : Pending) (r : Content) (g : Algorithm) (d : Decision) (octets : List ℕ) (t' : Table) → g ≡ algorithm_of p.digest → SpellsRequest lane_profile.wire p.message r → false ≡ is_denied lane_profile.takes_changes r.operation → ((message : List ℕ) → false ≡ is_late (message_as m message) p)
      → Decides hosts g t r (Proven (record { response = a; nonce = p.nonce; digest = p.digest })) d → octets ≡ answer_octets g m.moment m.envelope r d.code d.content → t' ≡ apply_if t m.moment d.change
      → IsRedeemed context m a p octets t'
  proven a p r g d octets t' hash spells allowed in_time decided is table = λ s message.
      let s' = without_challenge s (message_as m message) in
      let proof : Proof = record { response = a; nonce = p.nonce; digest = p.digest } in (
        Some r,
        spells,
        let_through a p r s' message octets t' allowed (subst (λ b. Replies context m.moment (cond b (Late (message_as m message) r (algorithm_of p.digest) s') (Redeem (message_as m message) r proof s')) octets s' t') (in_time message)
            (answer_effect (algorithm_of p.digest) s' (message_as m message) r d, (d, subst (λ h. Decides hosts h t r (Proven proof) d) hash decided, refl), ap Reply (sym (subst (λ h. octets ≡ answer_octets h m.moment m.envelope r d.code d.content) hash is)), refl, table)),
      )

  module _ (lanes : List Held) (number : ℕ) where
    abbrev scene : Scene
    scene = record { context = context; lanes = lanes }

    s : LaneState
    s = state_at lanes number

    pub unknown : (r : Content) (a : Response) (octets : List ℕ) → None ≡ challenge_of (state_at lanes number).challenges.challenges m.peer m.envelope.session → IsTold Sha1 m r 4 octets → RespondsAt scene number (record { origin = m; request = r; response = a }) octets lanes t
    unknown r a octets none is = λ message. (
      state_at lanes number,
      kept lanes number,
      Unknown (message_as m message) r (state_at lanes number),
      subst (λ o. IsResponseTask lane_profile (state_at lanes number) (message_as m message) r a o (Unknown (message_as m message) r (state_at lanes number))) none refl,
      told (Unknown (message_as m message) r (state_at lanes number)) Sha1 r 4 (state_at lanes number) message octets refl is,
    )

    pub known : (r : Content) (a : Response) (p : Pending) (octets : List ℕ) (lanes' : List Held) (t' : Table) → Some p ≡ challenge_of (state_at lanes number).challenges.challenges m.peer m.envelope.session
        → IsRedeemed context m a p octets t' → lanes' ≡ with_state lanes number (without_challenge (state_at lanes number) (message_as m [])) → RespondsAt scene number (record { origin = m; request = r; response = a }) octets lanes' t'
    known r a p octets lanes' t' found redeem spent = λ message.
        let done = redeem (state_at lanes number) message in
        let k = redeem_task lane_profile.takes_changes (state_at lanes number) (message_as m message) a p done.0 in (
          without_challenge (state_at lanes number) (message_as m message),
          spent,
          k,
          subst (λ o. IsResponseTask lane_profile (state_at lanes number) (message_as m message) r a o k) found (done.0, done.1, refl),
          done.2,
        )

    -- ---- a message

    pub no_request : (message octets : List ℕ) → ((r : Content) → SpellsRequest lane_profile.wire message r → ⊥) → octets ≡ short_reply 4 m.envelope → HandlesMessageAt scene number (message_as m message) octets lanes t
    no_request message octets none is =
        (state_at lanes number, kept lanes number, (Malformed (message_as m message) (state_at lanes number), (None, none, refl), garbled (state_at lanes number) message octets is))

    pub responded : (message : List ℕ) (r : Content) (a : Response) (octets : List ℕ) (lanes' : List Held) (t' : Table) → SpellsRequest lane_profile.wire message r → Some a ≡ response_of r.operation
        → RespondsAt scene number (record { origin = m; request = r; response = a }) octets lanes' t' → HandlesMessageAt scene number (message_as m message) octets lanes' t'
    responded message r a octets lanes' t' spells is responds =
        let done = responds message in
        (done.0, done.1, (done.2, (Some r, spells, subst (λ o. IsRequestTask lane_profile (state_at lanes number) (message_as m message) r o done.2) is done.3), done.4))

    -- a request that isn't denied
    asks : (message : List ℕ) (r : Content) (o : Option (List ℕ)) → o ≡ told_site lane_profile.site r.operation → false ≡ is_denied lane_profile.takes_changes r.operation
        → ask_task (state_at lanes number) (message_as m message) r o ≡ request_task lane_profile (state_at lanes number) (message_as m message) r
    asks message r o told allowed = λ i. cond {A = Task} (allowed i) (Deny (message_as m message) r (state_at lanes number)) (ask_task (state_at lanes number) (message_as m message) r (told i))

    asking : (message : List ℕ) (r : Content) → SpellsRequest lane_profile.wire message r → None ≡ response_of r.operation → None ≡ told_site lane_profile.site r.operation → false ≡ is_denied lane_profile.takes_changes r.operation → IsMessageTask lane_profile (state_at lanes number) (message_as m message) (Ask (message_as m message) r (state_at lanes number))
    asking message r spells is told allowed = (Some r, spells, subst (λ o. IsRequestTask lane_profile (state_at lanes number) (message_as m message) r o (Ask (message_as m message) r (state_at lanes number))) is (asks message r None told allowed))

    pub answered : (message : List ℕ) (r : Content) (octets : List ℕ) (t' : Table) (asked : RequestResult) (next : ℕ) → SpellsRequest lane_profile.wire message r → None ≡ response_of r.operation → None ≡ told_site lane_profile.site r.operation → false ≡ is_denied lane_profile.takes_changes r.operation → asked ≡ Answered octets
        → IsDecidedForAnyone context m next r asked t' → HandlesMessageAt scene number (message_as m message) octets lanes t'
    answered message r octets t' asked next spells is told allowed same done =
        let d = subst (λ (x : RequestResult). IsDecidedForAnyone context m next r x t') same done in
        let m' = message_as m message in
        let here = state_at lanes number in (
          here,
          kept lanes number,
          (
            Ask m' r here,
            asking message r spells is told allowed,
            (answer_effect (request_algorithm algorithms r) here m' r d.0, (d.0, d.1, ap (λ b. cond {A = Effect} b (challenge_effect (request_algorithm algorithms r) here m' r) (answer_effect (request_algorithm algorithms r) here m' r d.0)) (sym d.2)), ap Reply (sym d.3), refl, d.4),
          ),
        )

    pub denied : (message octets : List ℕ) (r : Content) → SpellsRequest lane_profile.wire message r → None ≡ response_of r.operation → true ≡ is_denied lane_profile.takes_changes r.operation → IsDenied algorithms m r octets → HandlesMessageAt scene number (message_as m message) octets lanes t
    denied message octets r spells is never same =
        let m' = message_as m message in
        let here = state_at lanes number in (
          here,
          kept lanes number,
          (
            Deny m' r here,
            (
              Some r,
              spells,
              subst (λ o. IsRequestTask lane_profile here m' r o (Deny m' r here)) is
                  (λ i. cond {A = Task} (never i) (Deny m' r here) (ask_task here m' r (told_site lane_profile.site r.operation))),
            ),
            told (Deny m' r here) (request_algorithm algorithms r) r 5 here message octets refl same,
          ),
        )

    pub informed : (message octets site : List ℕ) (r : Content) → SpellsRequest lane_profile.wire message r → None ≡ response_of r.operation → Some site ≡ told_site lane_profile.site r.operation → false ≡ is_denied lane_profile.takes_changes r.operation → IsInformed m r site octets
        → HandlesMessageAt scene number (message_as m message) octets lanes t
    informed message octets site r spells is told allowed same =
        let m' = message_as m message in
        let here = state_at lanes number in (
          here,
          kept lanes number,
          (
            Inform m' r site here,
            (Some r, spells, subst (λ o. IsRequestTask lane_profile here m' r o (Inform m' r site here)) is (asks message r (Some site) told allowed)),
            (answer_effect Sha1 here m' r (site_decision Sha1 r site), refl, ap Reply (sym same), refl, sym (ap (apply_if t m.moment) (site_changes_nothing Sha1 r site))),
          ),
        )

    pub challenges : (message : List ℕ) (r : Content) (octets : List ℕ) (digest : Digest) (t' : Table) (lanes' : List Held) (asked : RequestResult) (next : ℕ) → SpellsRequest lane_profile.wire message r → None ≡ response_of r.operation → None ≡ told_site lane_profile.site r.operation → false ≡ is_denied lane_profile.takes_changes r.operation → asked ≡ Challenged octets digest
        → next ≡ (state_at lanes number).challenges.next → IsDecidedForAnyone context m next r asked t'
        → lanes' ≡ with_state lanes number (record { is_open = (state_at lanes number).is_open; partials = (state_at lanes number).partials; challenges = add_challenge (state_at lanes number).challenges (record { peer = m.peer; moment = m.moment; nonce = m.nonce; digest = digest; message = message }) })
        → HandlesMessageAt scene number (message_as m message) octets lanes' t'
    challenges message r octets digest t' lanes' asked next spells is told allowed same numbered done put =
        let d = subst (λ (x : RequestResult). IsDecidedForAnyone context m next r x t') same done in
        let m' = message_as m message in
        let here = state_at lanes number in
        let sent : LaneState = record { is_open = here.is_open; partials = here.partials; challenges = add_challenge here.challenges (pending (request_algorithm algorithms r) m' r) } in (
          sent,
          put ∙ ap (λ (x : Digest). with_state lanes number (record { is_open = here.is_open; partials = here.partials; challenges = add_challenge here.challenges (record { peer = m.peer; moment = m.moment; nonce = m.nonce; digest = x; message = message }) })) d.4,
          (
            Ask m' r here,
            asking message r spells is told allowed,
            (
              challenge_effect (request_algorithm algorithms r) here m' r,
              (d.0, d.1, ap (λ b. cond {A = Effect} b (challenge_effect (request_algorithm algorithms r) here m' r) (answer_effect (request_algorithm algorithms r) here m' r d.0)) (sym d.2)),
              ap Reply (ap (λ n. challenge_octets (request_algorithm algorithms r) m.moment n m.envelope r m.nonce) (sym numbered) ∙ sym d.3),
              refl,
              d.5,
            ),
          ),
        )
