-- What the reply to a message leaves of the challenges: the trail has it too.
use Rattle.std.proofs.Common.{◌≡◌, ℕ, ◌<◌, ◌≤◌, ◌^◌, Bool, true, false, not, ◌&&◌, cond, eqb, List, [], ◌++◌, length, map, find, Option, Some, None, is_some, option_map, refl, sym, ap, ◌∙◌, subst, IsTrue, arith}
use Rattle.hdl_auth.specs.declared.algorithm.Algorithm.{Algorithm}
use Rattle.hdl_auth.specs.declared.algorithm.Algorithm.TheVariants.{Sha1}
use Rattle.hdl_auth.specs.Digest.{algorithm_of}
use Rattle.hdl_frame.specs.declared.envelope.Envelope.{Envelope}
use Rattle.hdl_frame.specs.Envelope.{envelope_at, message_envelope}
use Rattle.hdl_rows.specs.Table.{Table}
use Rattle.hdl_value.specs.declared.wire.Wire.{Wire}
use Rattle.hdl_msg.specs.Message.{Content, SpellsRequest, header_octets, IsNumber}
use Rattle.hdl_msg.specs.Laws.{response_code_at}
use Rattle.hdl_msg.specs.Reply.{reply_message, reply_octets, short_reply, short_header}
use Rattle.hdl_value.specs.Spelling.{string}
use Rattle.hdl_msg.specs.declared.replies.Reply as message
use Rattle.hdl_msg.specs.declared.replies.ReplyContent.TheVariants.{Empty}
use Rattle.hdl_msg.proofs.ReplyLaws.{code-short_reply}
use Rattle.hdl_slots.specs.declared.pending.Pending.{Pending}
use Rattle.hdl_slots.specs.declared.pending.Challenge.{Challenge}
use Rattle.hdl_slots.specs.Lanes as slots
use Rattle.hdl_ops.specs.Admission.{request_algorithm}
use Rattle.hdl_ops.specs.Decisions.{Anyone, Proven, Decision, failure, site_decision}
use Rattle.hdl_ops.specs.Proven.{Proof}
use Rattle.hdl_ops.specs.Replies.{reply_to, challenge_to}
use Rattle.hdl_ops.specs.Requests.{Response, response_of}
use Rattle.hdl_ops.proofs.Announced.{proven_code}
use Rattle.hdl_ops.proofs.Codes.{is_answer_code, code_fits, decides_code, not_busy}
use Rattle.hdl_ops.proofs.SiteDecisions.{site_code, site_unchallenged}
use Rattle.hdl_events.specs.declared.Outcome.TheVariants.{Reply}
use Rattle.hdl_laws.specs.Lanes.{LaneState}
use Rattle.hdl_laws.specs.LaneProfile.{LaneProfile}
use Rattle.hdl_laws.specs.Tasks.{Message, Task, Ignore, Break, Malformed, Unknown, Late, Deny, Ask, Inform, Redeem, told_site, ask_task, is_denied, is_late, due_task, redeem_task, IsReading, IsResponseTask, IsRequestTask, IsContentTask, IsMessageTask}
use Rattle.hdl_laws.specs.Tasks as laws
use Rattle.hdl_laws.specs.Effects.{Effect, Does, pending, answer_octets, challenge_octets, answer_effect, challenge_effect}
use Rattle.hdl_laws.proofs.Codes.{reply_code, challenge_code}
use Rattle.hdl_peers.specs.declared.kept.MessageKey.{MessageKey}
use Rattle.hdl_peers.specs.declared.kept.SentChallenge.{SentChallenge}
use Rattle.hdl_peers.specs.Exchange.{key_of, number_at, reply_of}
use Rattle.hdl_peers.specs.Followed.{is_response, redeem, add_challenge}
use Rattle.hdl_peers_laws.specs.Follows.{sent_of, IsInUse, CanBeRead}
use Rattle.hdl_peers_laws.proofs.Lists.{each_filter, each_found, length_filter}
use Rattle.hdl_peers_laws.proofs.Replies.{front, reply_read, session_seen}
use Rattle.hdl_peers_laws.proofs.Operations.{response_seen, proven_no_fault}
use Rattle.hdl_peers_laws.proofs.Challenges.{spent_seen, put_seen, put_few, put_read, next_fits, unchanged, spends, puts}

-- ---- what is seen of a reply

long : (y : message.Reply) → 8 ≤ length (reply_message y)
unfolding reply_message header_octets
long y = omega arith

abbrev session_in : List ℕ → ℕ
session_in octets = (envelope_at (front octets)).session

reply_seen : (y : message.Reply) → reply_of (front (reply_octets y)) ≡ Some (response_code_at (reply_octets y), session_in (reply_octets y))
unfolding reply_octets
reply_seen y = reply_read (message_envelope y.session y.request (length (reply_message y))) (reply_message y) refl (long y)

session_is : (y : message.Reply) → y.session < 2 ^ 32 → session_in (reply_octets y) ≡ y.session
unfolding reply_octets
session_is y fits = session_seen (message_envelope y.session y.request (length (reply_message y))) (reply_message y) fits

challenge_session : (a : Algorithm) (moment number : ℕ) (e : Envelope) (r : Content) (nonce : List ℕ) → number < 2 ^ 32 → session_in (challenge_octets a moment number e r nonce) ≡ number
unfolding challenge_to
challenge_session a moment number e r nonce fits = session_is (challenge_to a moment number e.request r nonce) fits

pub short_seen : (code : ℕ) (e : Envelope) → IsNumber code → reply_of (front (short_reply code e)) ≡ Some (code, session_in (short_reply code e))
unfolding short_reply header_octets
short_seen code e fits =
    let m : List ℕ = header_octets (short_header code) ++ (string (string []) ++ string []) in
    reply_read (message_envelope e.session e.request 32) m refl (omega arith)
    ∙ ap (λ (c : ℕ). Some (c, session_in (short_reply code e))) (code-short_reply code e fits)

-- ---- what the reply leaves

-- The effect on the lane: a reply whose code and session the trail sees, with which its challenges become the lane's.
pub record Answered (wire : Wire) (s : LaneState) (m : Message) (eff : Effect) : Type 0 where
  pub octets : List ℕ
  pub outcome : eff.outcome ≡ Reply octets
  pub code : ℕ
  pub session : ℕ
  pub seen : reply_of (front octets) ≡ Some (code, session)
  pub calm : eqb code 3 ≡ false
  pub partials : eff.state.partials ≡ s.partials
  pub challenges : add_challenge m.peer code session (redeem (key_of m.peer m.envelope) (number_at m.message 0) code (map sent_of s.challenges.challenges)) ≡ map sent_of eff.state.challenges.challenges
  pub in_use : IsInUse wire eff.state

no_change : (b : Bool) → b && false ≡ false
no_change true = refl
no_change false = refl

abbrev spent_lane : LaneState → Message → LaneState
spent_lane s m = laws.without_challenge s m

spent_in_use : (wire : Wire) (s : LaneState) (m : Message) → IsInUse wire s → IsInUse wire (spent_lane s m)
spent_in_use wire s m u = record {
  is_open = u.is_open;
  partials = u.partials;
  next = u.next;
  few = let fewer = length_filter (λ (c : Challenge). not (slots.is_of m.peer m.envelope.session c)) s.challenges.challenges in omega (arith, u.few);
  challenges = each_filter (CanBeRead wire) (λ (c : Challenge). not (slots.is_of m.peer m.envelope.session c)) s.challenges.challenges u.challenges;
}

module _ (lane_profile : LaneProfile) (hosted : List ℕ → Bool) (algorithms : List ℕ → Algorithm) (t : Table) (s : LaneState) (u : IsInUse lane_profile.wire s) (m : Message) where
  abbrev key : MessageKey
  key = key_of m.peer m.envelope

  abbrev sent : List SentChallenge
  sent = map sent_of s.challenges.challenges

  -- a reply that leaves the challenges
  plain : (a : Algorithm) (r : Content) (d : Decision) → IsTrue (is_answer_code d.code) → eqb d.code 402 ≡ false → is_response (number_at m.message 0) && not (eqb d.code 4) ≡ false → Answered lane_profile.wire s m (answer_effect a s m r d)
  plain a r d fits none other =
      let octets = answer_octets a m.moment m.envelope r d.code d.content in
      record {
        octets = octets;
        outcome = refl;
        code = d.code;
        session = session_in octets;
        seen = reply_seen (reply_to a m.moment m.envelope.session m.envelope.request r d.code d.content) ∙ ap (λ (c : ℕ). Some (c, session_in octets)) (reply_code a m.moment m.envelope.session m.envelope.request r d.code d.content fits);
        calm = not_busy d.code fits;
        partials = refl;
        challenges = unchanged key (number_at m.message 0) d.code (session_in octets) sent none other;
        in_use = u;
      }

  -- a reply to a response that spends its challenge
  spending : (a : Algorithm) (r : Content) (d : Decision) → IsTrue (is_answer_code d.code) → eqb d.code 402 ≡ false → is_response (number_at m.message 0) && not (eqb d.code 4) ≡ true
      → Answered lane_profile.wire s m (answer_effect a (spent_lane s m) m r d)
  spending a r d fits none answers =
      let octets = answer_octets a m.moment m.envelope r d.code d.content in
      record {
        octets = octets;
        outcome = refl;
        code = d.code;
        session = session_in octets;
        seen = reply_seen (reply_to a m.moment m.envelope.session m.envelope.request r d.code d.content) ∙ ap (λ (c : ℕ). Some (c, session_in octets)) (reply_code a m.moment m.envelope.session m.envelope.request r d.code d.content fits);
        calm = not_busy d.code fits;
        partials = refl;
        challenges = spends key (number_at m.message 0) d.code (session_in octets) sent none answers ∙ spent_seen m.peer m.envelope.session s.challenges.challenges;
        in_use = spent_in_use lane_profile.wire s m u;
      }

  -- a challenge
  challenging : (a : Algorithm) (r : Content) → SpellsRequest lane_profile.wire m.message r → is_response (number_at m.message 0) ≡ false → Answered lane_profile.wire s m (challenge_effect a s m r)
  challenging a r spelt other =
      let y = challenge_to a m.moment s.challenges.next m.envelope.request r m.nonce in
      let octets = challenge_octets a m.moment s.challenges.next m.envelope r m.nonce in
      let p = pending a m r in
      record {
        octets = octets;
        outcome = refl;
        code = 402;
        session = s.challenges.next;
        seen = reply_seen y ∙ ap (λ (c : ℕ). Some (c, session_in octets)) (challenge_code a m.moment s.challenges.next m.envelope.request r m.nonce) ∙ ap (λ (n : ℕ). Some (402, n)) (challenge_session a m.moment s.challenges.next m.envelope r m.nonce u.next);
        calm = refl;
        partials = refl;
        challenges = puts key (number_at m.message 0) s.challenges.next sent other ∙ put_seen s.challenges p u.few;
        in_use = record {
          is_open = u.is_open;
          partials = u.partials;
          next = next_fits s.challenges.next u.next;
          few = put_few s.challenges p;
          challenges = put_read lane_profile.wire s.challenges p u.challenges (r, spelt);
        };
      }

  malformed : (eff : Effect) → Does hosted algorithms t (Malformed m s) eff → Answered lane_profile.wire s m eff
  malformed eff does = subst (Answered lane_profile.wire s m) (sym does) (record {
    octets = short_reply 4 m.envelope;
    outcome = refl;
    code = 4;
    session = session_in (short_reply 4 m.envelope);
    seen = short_seen 4 m.envelope (code_fits 4 refl);
    calm = refl;
    partials = refl;
    challenges = unchanged key (number_at m.message 0) 4 (session_in (short_reply 4 m.envelope)) sent refl (no_change (is_response (number_at m.message 0)));
    in_use = u;
  })

  asked : (r : Content) → SpellsRequest lane_profile.wire m.message r → is_response (number_at m.message 0) ≡ false → (eff : Effect) → Does hosted algorithms t (Ask m r s) eff → Answered lane_profile.wire s m eff
  asked r spelt other eff does =
      let a = request_algorithm algorithms r in
      subst (Answered lane_profile.wire s m) (sym does.2) (pick a does.0 (decides_code hosted a t r Anyone does.0 does.1) (eqb does.0.code 402) refl)
    where
      pick : (a : Algorithm) (d : Decision) → IsTrue (is_answer_code d.code) → (b : Bool) → eqb d.code 402 ≡ b → Answered lane_profile.wire s m (cond {A = Effect} b (challenge_effect a s m r) (answer_effect a s m r d))
      pick a d fits true is = challenging a r spelt other
      pick a d fits false is = plain a r d fits is (ap (λ (b : Bool). b && not (eqb d.code 4)) other)

  informed : (r : Content) (site : List ℕ) → is_response (number_at m.message 0) ≡ false → (eff : Effect) → Does hosted algorithms t (Inform m r site s) eff → Answered lane_profile.wire s m eff
  informed r site other eff does =
      let d = site_decision Sha1 r site in
      subst (Answered lane_profile.wire s m) (sym does) (plain Sha1 r d (site_code Sha1 r site) (site_unchallenged Sha1 r site) (ap (λ (b : Bool). b && not (eqb d.code 4)) other))

  denied : (r : Content) → is_response (number_at m.message 0) ≡ false → (eff : Effect) → Does hosted algorithms t (Deny m r s) eff → Answered lane_profile.wire s m eff
  denied r other eff does = subst (Answered lane_profile.wire s m) (sym does) (plain (request_algorithm algorithms r) r (failure 5 Empty) refl refl (ap (λ (b : Bool). b && true) other))

  responded : (r : Content) (answer : Response) → is_response (number_at m.message 0) ≡ true → (p : Option Pending) → slots.challenge_of s.challenges.challenges m.peer m.envelope.session ≡ p
      → (k : Task) (eff : Effect) → IsResponseTask lane_profile s m r answer p k → Does hosted algorithms t k eff → Answered lane_profile.wire s m eff
  responded r answer is None missed k eff task does =
      let done : Does hosted algorithms t (Unknown m r s) eff = subst (λ (j : Task). Does hosted algorithms t j eff) task does in
      subst (Answered lane_profile.wire s m) (sym done) (plain Sha1 r (failure 4 Empty) refl refl (no_change (is_response (number_at m.message 0))))
  responded r answer is (Some p) found k eff task does =
      let done = subst (λ (j : Task). Does hosted algorithms t j eff) task.2 does in
      by_reading task.0 task.1 done
    where
      readable : (request : Content) × SpellsRequest lane_profile.wire p.message request
      readable = of_challenge (find (slots.is_of m.peer m.envelope.session) s.challenges.challenges) refl found
        where
          of_challenge : (o : Option Challenge) → find (slots.is_of m.peer m.envelope.session) s.challenges.challenges ≡ o → option_map (λ (c : Challenge). c.pending) o ≡ Some p → (request : Content) × SpellsRequest lane_profile.wire p.message request
          of_challenge None at is = absurd (cc)
          of_challenge (Some c) at is =
              let can : CanBeRead lane_profile.wire c = each_found (CanBeRead lane_profile.wire) (slots.is_of m.peer m.envelope.session) s.challenges.challenges c u.challenges at in
              let same : c.pending ≡ p = cc in
              subst (λ (q : Pending). (request : Content) × SpellsRequest lane_profile.wire q.message request) same can

      by_reading : (o : Option Content) → IsReading (SpellsRequest lane_profile.wire p.message) o → Does hosted algorithms t (redeem_task lane_profile.takes_changes s m answer p o) eff → Answered lane_profile.wire s m eff
      by_reading None none done = absurd (none readable.0 readable.1)
      by_reading (Some request) spelt done = by_denial (is_denied lane_profile.takes_changes request.operation) done
        where
          by_late : (b : Bool)
              → Does hosted algorithms t (cond {A = Task} b (Late m request (algorithm_of p.digest) (laws.without_challenge s m)) (Redeem m request (record { response = answer; nonce = p.nonce; digest = p.digest }) (laws.without_challenge s m))) eff
              → Answered lane_profile.wire s m eff
          by_late true done = subst (Answered lane_profile.wire s m) (sym done) (spending (algorithm_of p.digest) request (failure 405 Empty) refl refl (ap (λ (b : Bool). b && true) is))
          by_late false done =
              let proof : Proof = record { response = answer; nonce = p.nonce; digest = p.digest } in
              let a = algorithm_of p.digest in
              let d = done.0 in
              subst (Answered lane_profile.wire s m) (sym done.2)
              (spending a request d (decides_code hosted a t request (Proven proof) d done.1) (proven_code hosted a t request proof d done.1)
              (ap (λ (b : Bool). b && not (eqb d.code 4)) is ∙ ap not (proven_no_fault hosted a t request proof d done.1)))

          by_denial : (b : Bool) → Does hosted algorithms t (cond {A = Task} b (Deny m request (laws.without_challenge s m)) (due_task (laws.without_challenge s m) m answer p request)) eff → Answered lane_profile.wire s m eff
          by_denial true done = subst (Answered lane_profile.wire s m) (sym done) (spending (request_algorithm algorithms request) request (failure 5 Empty) refl refl (ap (λ (b : Bool). b && true) is))
          by_denial false done = by_late (is_late m p) done

  -- the trail sees what the reply to a message does
  pub message_answered : (k : Task) (eff : Effect) → IsMessageTask lane_profile s m k → Does hosted algorithms t k eff → Answered lane_profile.wire s m eff
  message_answered k eff task does = by_reading task.0 task.1 task.2
    where
      by_response : (r : Content) → SpellsRequest lane_profile.wire m.message r → (o : Option Response) → response_of r.operation ≡ o → IsRequestTask lane_profile s m r o k → Answered lane_profile.wire s m eff
      by_response r spelt None is task =
          by_denial (is_denied lane_profile.takes_changes r.operation) (subst (λ (j : Task). Does hosted algorithms t j eff) task does)
        where
          other : is_response (number_at m.message 0) ≡ false
          other = response_seen lane_profile.wire m.message r spelt ∙ ap is_some is

          by_site : (o : Option (List ℕ)) → Does hosted algorithms t (ask_task s m r o) eff → Answered lane_profile.wire s m eff
          by_site None done = asked r spelt other eff done
          by_site (Some site) done = informed r site other eff done

          by_denial : (b : Bool) → Does hosted algorithms t (cond {A = Task} b (Deny m r s) (ask_task s m r (told_site lane_profile.site r.operation))) eff → Answered lane_profile.wire s m eff
          by_denial true done = denied r other eff done
          by_denial false done = by_site (told_site lane_profile.site r.operation) done
      by_response r spelt (Some answer) is task =
          responded r answer (response_seen lane_profile.wire m.message r spelt ∙ ap is_some is) (slots.challenge_of s.challenges.challenges m.peer m.envelope.session) refl k eff task does

      by_reading : (o : Option Content) → IsReading (SpellsRequest lane_profile.wire m.message) o → IsContentTask lane_profile s m o k → Answered lane_profile.wire s m eff
      by_reading None none task = malformed eff (subst (λ (j : Task). Does hosted algorithms t j eff) task does)
      by_reading (Some r) spelt task = by_response r spelt (response_of r.operation) refl task
