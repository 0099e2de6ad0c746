-- What each step sends is a reply whose header announces what it carries.
use Rattle.std.proofs.Common.{◌≡◌, inl, inr, ℕ, List, Bool, true, false, cond, ◌==◌, [], ◌++◌, Option, Some, None, refl, sym, ap, ◌∙◌, subst}
use Rattle.std.specs.Prelude.{⊤, MatchBool, drop}
use Rattle.hdl_auth.specs.declared.algorithm.Algorithm.{Algorithm}
use Rattle.hdl_auth.specs.declared.algorithm.Algorithm.TheVariants.{Sha1}
use Rattle.hdl_auth.specs.Digest.{algorithm_of}
use Rattle.hdl_value.specs.declared.wire.Wire.{Wire}
use Rattle.hdl_frame.specs.declared.envelope.Envelope.{Envelope}
use Rattle.hdl_frame.specs.Envelope.{envelope_at, envelope_octets, is_truncated, message_envelope}
use Rattle.hdl_rows.specs.Table.{Table}
use Rattle.hdl_msg.specs.declared.replies.Reply as message
use Rattle.hdl_msg.specs.declared.replies.ReplyContent.TheVariants.{Empty}
use Rattle.hdl_msg.specs.Codes.{IsNumberOf}
use Rattle.hdl_msg.specs.Laws.{short_parts}
use Rattle.hdl_msg.specs.Reading.{reply_at}
use Rattle.hdl_value.specs.Spelling.{string}
use Rattle.hdl_msg.specs.declared.codes.OpCode.TheVariants.{GetSiteInfo}
use Rattle.hdl_msg.specs.Message.{Content, Operation, resolution, site_info, create, delete, add, remove, modify, list, response, other, code_of, SpellsRequest, IsShort, header_octets}
use Rattle.hdl_msg.specs.Reply.{reply_body, reply_message, reply_octets, short_reply, ReplyParts, reply_parts, parts_body, IsAnnounced, announced_form, parts_message, parts_read, PartsFit, SpellsReply, content_read, digest_octets, wire_of_content}
use Rattle.hdl_msg.proofs.ReplyReadings.{reply_again, short_reply_spelt_lem}
use Rattle.hdl_msg.proofs.Seen.{own_wire, same_content, same_form, same_wire}
use Rattle.hdl_pool.specs.Taking.{take_piece, free_partial, whole_message}
use Rattle.hdl_pool.specs.Partial.{key_of, piece_of}
use Rattle.hdl_slots.specs.declared.pending.Pending.{Pending}
use Rattle.hdl_slots.specs.Lanes.{challenge_of}
use Rattle.hdl_ops.specs.Admission.{request_algorithm}
use Rattle.hdl_ops.specs.Decisions.{Anyone, Proven, Decision, site_decision, Decides}
use Rattle.hdl_ops.specs.Requests.{Response, response_of}
use Rattle.hdl_ops.specs.Replies.{reply_to, challenge_to}
use Rattle.hdl_ops.proofs.Announced.{digest_announced, answer_announced_lem, protocol_error_announced, timeout_announced, challenge_announced_lem, proven_code}
use Rattle.hdl_ops.proofs.SiteDecisions.{site_announced}
use Rattle.hdl_events.specs.declared.What.{What}
use Rattle.hdl_events.specs.declared.What.TheVariants.{Open, Bad, Close}
use Rattle.hdl_laws.specs.Lanes.{LaneState, with_partials}
use Rattle.hdl_laws.specs.LaneProfile.{LaneProfile}
use Rattle.hdl_laws.specs.Worlds.{World, hosts, algorithms, owner, lane_of, lane_profile}
use Rattle.hdl_laws.specs.Tasks.{Received, Message, message_from, Task, Ignore, Break, Malformed, Unknown, Late, Deny, Ask, Inform, Redeem, told_site, ask_task, is_denied, is_late, without_challenge, due_task, redeem_task, IsReading, IsResponseTask, IsRequestTask, IsContentTask, IsMessageTask, IsWholeTask, IsFrameTask, IsOctetsTask, IsTask}
use Rattle.hdl_laws.specs.Effects.{Effect, Does, answer_effect, challenge_effect}
use Rattle.hdl_laws.specs.Steps.{Turn, IsAnswerFor, IsStep}
use Rattle.hdl_laws.specs.Reveals.{IsSelfTold, sent_by, StepsAnnounce}

-- ---- octets

spelt_as_read : (octets : List ℕ) (p : ReplyParts) → IsAnnounced p → octets ≡ parts_message p → PartsFit (parts_read p) → IsShort (parts_body p) → SpellsReply (wire_of_content (content_read p.content)) octets (parts_read p)
spelt_as_read octets p announced e fits short = record {
  by_wire = own_wire (content_read p.content);
  fits = fits;
  announced = record { digest = announced.digest; form = same_form p.content ∙ announced.form };
  body_fits = subst (λ (x : List ℕ). IsShort (digest_octets p.digest ++ x)) (sym (same_content p.content)) short;
  spelt = e ∙ ap (λ (x : List ℕ). header_octets p.header ++ (string (digest_octets p.digest ++ x) ++ string [])) (sym (same_content p.content));
}

self_told : (octets : List ℕ) (p : ReplyParts) → IsAnnounced p → drop 20 octets ≡ parts_message p → IsSelfTold octets
self_told octets p announced e = (
  p,
  announced,
  e,
  λ fits short.
      ap (λ (w : Wire). reply_at w (drop 20 octets)) (sym (same_wire p.content))
      ∙ reply_again (wire_of_content (content_read p.content)) (drop 20 octets) (parts_read p) (spelt_as_read (drop 20 octets) p announced e fits short),
)

made_self : (y : message.Reply) → IsAnnounced (reply_parts y) → IsSelfTold (reply_octets y)
unfolding reply_octets envelope_octets reply_message reply_body
made_self y announced = self_told (reply_octets y) (reply_parts y) announced refl

busy_self : (e : Envelope) → IsSelfTold (short_reply 3 e)
busy_self e = let s = (short_reply_spelt_lem e).0 in self_told (short_reply 3 e) (short_parts 3) s.announced s.spelt

refused_self : (e : Envelope) → IsSelfTold (short_reply 4 e)
refused_self e = let s = (short_reply_spelt_lem e).1 in self_told (short_reply 4 e) (short_parts 4) s.announced s.spelt

same_octets : (octets sent : List ℕ) → Some sent ≡ Some octets → IsSelfTold sent → IsSelfTold octets
same_octets octets sent e self = let same : sent ≡ octets = cc in subst IsSelfTold same self

nothing_sent : (octets : List ℕ) → None ≡ Some octets → IsSelfTold octets
nothing_sent octets e = absurd cc

-- ---- the request of a task has its operation's code

abbrev Coded : Content → Type 0
Coded r = IsNumberOf (code_of r.operation) r.header.op_code

abbrev CodedTask : Task → Type 0
CodedTask (Ask m r s) = Coded r
CodedTask (Inform m r site s) = IsNumberOf (Some GetSiteInfo) r.header.op_code
CodedTask (Redeem m r p s) = Coded r
CodedTask _ = ⊤

either : {A B P : Type 0} (b : Bool) → (A → P) → (B → P) → MatchBool b A B → P
either true f g x = f x
either false f g x = g x

redeem_coded : (w : LaneProfile) (s : LaneState) (m : Message) (a : Response) (p : Pending) (o : Option Content) → IsReading (SpellsRequest w.wire p.message) o → CodedTask (redeem_task w.takes_changes s m a p o)
redeem_coded w s m a p None h = tt
redeem_coded w s m a p (Some r) h = denied (is_denied w.takes_changes r.operation)
  where
    by : (b : Bool) → CodedTask (cond {A = Task} b (Late m r (algorithm_of p.digest) (without_challenge s m)) (Redeem m r (record { response = a; nonce = p.nonce; digest = p.digest }) (without_challenge s m)))
    by true = tt
    by false = h.has_code

    denied : (b : Bool) → CodedTask (cond {A = Task} b (Deny m r (without_challenge s m)) (due_task (without_challenge s m) m a p r))
    denied true = tt
    denied false = by (is_late m p)

response_coded : (w : LaneProfile) (s : LaneState) (m : Message) (r : Content) (a : Response) (o : Option Pending) (k : Task) → IsResponseTask w s m r a o k → CodedTask k
response_coded w s m r a None k is = subst CodedTask (sym is) tt
response_coded w s m r a (Some p) k is = subst CodedTask (sym is.2) (redeem_coded w s m a p is.0 is.1)

-- only a question for site information is answered by it
asked_coded : (s : LaneState) (m : Message) (r : Content) (site : Option (List ℕ)) (o : Operation) → r.operation ≡ o → Coded r → CodedTask (ask_task s m r (told_site site o))
asked_coded s m r None (site_info octets) is has = has
asked_coded s m r (Some site) (site_info octets) is has = subst (λ (o : Operation). IsNumberOf (code_of o) r.header.op_code) is has
asked_coded s m r site (resolution handle indexes types) is has = has
asked_coded s m r site (create handle values) is has = has
asked_coded s m r site (delete handle) is has = has
asked_coded s m r site (add handle values) is has = has
asked_coded s m r site (remove handle indexes) is has = has
asked_coded s m r site (modify handle values) is has = has
asked_coded s m r site (list handle) is has = has
asked_coded s m r site (response kind handle index answer) is has = has
asked_coded s m r site (other octets) is has = has

request_coded : (w : LaneProfile) (s : LaneState) (m : Message) (r : Content) (o : Option Response) (k : Task) → Coded r → IsRequestTask w s m r o k → CodedTask k
request_coded w s m r None k has is = subst CodedTask (sym is) (denied (is_denied w.takes_changes r.operation))
  where
    denied : (b : Bool) → CodedTask (cond {A = Task} b (Deny m r s) (ask_task s m r (told_site w.site r.operation)))
    denied true = tt
    denied false = asked_coded s m r w.site r.operation refl has
request_coded w s m r (Some a) k has is = response_coded w s m r a (challenge_of s.challenges.challenges m.peer m.envelope.session) k is

content_coded : (w : LaneProfile) (s : LaneState) (m : Message) (o : Option Content) (k : Task) → IsReading (SpellsRequest w.wire m.message) o → IsContentTask w s m o k → CodedTask k
content_coded w s m None k h is = subst CodedTask (sym is) tt
content_coded w s m (Some r) k h is = request_coded w s m r (response_of r.operation) k h.has_code is

message_coded : (w : LaneProfile) (s : LaneState) (m : Message) (k : Task) → IsMessageTask w s m k → CodedTask k
message_coded w s m k is = content_coded w s m is.0 k is.1 is.2

whole_coded : (w : LaneProfile) (kept gone : LaneState) (x : Received) (o : Option (List ℕ)) (k : Task) → IsWholeTask w kept gone x o k → CodedTask k
whole_coded w kept gone x None k is = subst CodedTask (sym is) tt
whole_coded w kept gone x (Some bytes) k is = message_coded w gone (message_from x bytes) k is

frame_coded : (w : LaneProfile) (s : LaneState) (x : Received) (k : Task) → IsFrameTask w s x k → CodedTask k
frame_coded w s x k is =
    either (is_truncated (envelope_at x.bytes))
    (λ piece. whole_coded w _ (with_partials s (free_partial s.partials (key_of x.peer (envelope_at x.bytes)))) x (whole_message (take_piece s.partials (piece_of x.peer x.bytes)).0) k piece)
    (λ whole. message_coded w s _ k whole) is

octets_coded : (w : LaneProfile) (s : LaneState) (x : Received) (k : Task) → IsOctetsTask w s x k → CodedTask k
octets_coded w s x k (inl frame) = frame_coded w s x k frame.1
octets_coded w s x k (inr none) = subst CodedTask (sym none.1) tt

task_coded : (w : LaneProfile) (s : LaneState) (what : What) (k : Task) → IsTask w s what k → CodedTask k
task_coded w s Open k is = subst CodedTask (sym is) tt
task_coded w s Close k is = subst CodedTask (sym is) tt
task_coded w s (Bad session request) k is = subst CodedTask (sym is) (by s.is_open)
  where
    by : (b : Bool) → CodedTask (cond {A = Task} b (Break session request s) (Ignore s))
    by true = tt
    by false = tt
task_coded w s (What.Frame peer moment nonce bytes) k is = either s.is_open (λ x. octets_coded w s _ k x) (λ e. subst CodedTask (sym e) tt) is

-- ---- steps

pub denied_announced : (a : Algorithm) (moment session number : ℕ) (r : Content) → IsAnnounced (reply_parts (reply_to a moment session number r 5 Empty))
unfolding reply_to announced_form
denied_announced a moment session number r = record { digest = digest_announced a r 5 refl; form = refl }

asked_self : (hosted : List ℕ → Bool) (a : Algorithm) (t : Table) (s : LaneState) (m : Message) (r : Content) (d : Decision) (octets : List ℕ) (b : Bool) → Coded r → d.code == 402 ≡ b → Decides hosted a t r Anyone d
    → sent_by (cond {A = Effect} b (challenge_effect a s m r) (answer_effect a s m r d)).outcome ≡ Some octets → IsSelfTold octets
asked_self hosted a t s m r d octets true has e decided is =
    same_octets octets _ is (made_self (challenge_to a m.moment s.challenges.next m.envelope.request r m.nonce) (challenge_announced_lem a m.moment s.challenges.next m.envelope.request r m.nonce))
asked_self hosted a t s m r d octets false has e decided is =
    same_octets octets _ is (made_self (reply_to a m.moment m.envelope.session m.envelope.request r d.code d.content) (answer_announced_lem hosted a t r Anyone d m.moment m.envelope.session m.envelope.request has decided e))

abbrev sends : Effect → Option (List ℕ)
sends eff = sent_by eff.outcome

does_announce : (hosted : List ℕ → Bool) (algorithms : List ℕ → Algorithm) (t : Table) (k : Task) (eff : Effect) (octets : List ℕ) → CodedTask k → Does hosted algorithms t k eff → sends eff ≡ Some octets → IsSelfTold octets
does_announce hosted algorithms t (Ignore s) eff octets has is e = nothing_sent octets (sym (ap sends is) ∙ e)
does_announce hosted algorithms t (Break session request s) eff octets has is e = same_octets octets _ (sym (ap sends is) ∙ e) (refused_self (message_envelope session request 0))
does_announce hosted algorithms t (Malformed m s) eff octets has is e = same_octets octets _ (sym (ap sends is) ∙ e) (refused_self m.envelope)
does_announce hosted algorithms t (Unknown m r s) eff octets has is e =
    same_octets octets _ (sym (ap sends is) ∙ e) (made_self (reply_to Sha1 m.moment m.envelope.session m.envelope.request r 4 Empty) (protocol_error_announced Sha1 m.moment m.envelope.session m.envelope.request r))
does_announce hosted algorithms t (Late m r a s) eff octets has is e =
    same_octets octets _ (sym (ap sends is) ∙ e) (made_self (reply_to a m.moment m.envelope.session m.envelope.request r 405 Empty) (timeout_announced a m.moment m.envelope.session m.envelope.request r))
does_announce hosted algorithms t (Deny m r s) eff octets has is e =
    same_octets octets _ (sym (ap sends is) ∙ e) (made_self (reply_to (request_algorithm algorithms r) m.moment m.envelope.session m.envelope.request r 5 Empty) (denied_announced (request_algorithm algorithms r) m.moment m.envelope.session m.envelope.request r))
does_announce hosted algorithms t (Ask m r s) eff octets has is e =
    asked_self hosted (request_algorithm algorithms r) t s m r is.0 octets (is.0.code == 402) has refl is.1 (sym (ap sends is.2) ∙ e)
does_announce hosted algorithms t (Inform m r site s) eff octets has is e =
    same_octets octets _ (sym (ap sends is) ∙ e)
    (made_self (reply_to Sha1 m.moment m.envelope.session m.envelope.request r (site_decision Sha1 r site).code (site_decision Sha1 r site).content) (site_announced Sha1 r site m.moment m.envelope.session m.envelope.request has))
does_announce hosted algorithms t (Redeem m r p s) eff octets has is e =
    same_octets octets _ (sym (ap sends is.2) ∙ e)
    (made_self (reply_to (algorithm_of p.digest) m.moment m.envelope.session m.envelope.request r is.0.code is.0.content)
    (answer_announced_lem hosted (algorithm_of p.digest) t r (Proven p) is.0 m.moment m.envelope.session m.envelope.request has is.1 (proven_code hosted (algorithm_of p.digest) t r p is.0 is.1)))

step_announces : (w : World) (t : Turn) (octets : List ℕ) → IsStep w t → sent_by t.outcome ≡ Some octets → IsSelfTold octets
step_announces w t octets (inl a) e = by (owner w.site t.event.lane) a
  where
    by : (o : Option ℕ) → IsAnswerFor w o t → IsSelfTold octets
    by None is = nothing_sent octets (sym (ap (λ (z : Turn). sent_by z.outcome) is) ∙ e)
    by (Some u) is =
        does_announce (hosts w.site u) (algorithms w.site u) w.table is.1 is.0 octets (task_coded (lane_profile w.site u) (lane_of w t.event.lane) t.event.what is.1 is.2) is.3 (sym (ap (λ (z : Turn). sent_by z.outcome) is.4) ∙ e)
step_announces w t octets (inr b) e = same_octets octets _ (sym (ap (λ (z : Turn). sent_by z.outcome) b.busy) ∙ e) (busy_self (envelope_at b.received.bytes))

pub steps_announce : StepsAnnounce
steps_announce w new e o octets s sent = step_announces w s.0 octets s.1 (ap sent_by s.3 ∙ sent)
