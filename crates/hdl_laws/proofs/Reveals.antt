-- What one reply tells.
use Rattle.std.proofs.Common.{◌≡◌, inl, inr, ℕ, List, Bool, true, false, cond, ◌==◌, Option, Some, None, refl, sym, ap, ◌∙◌, subst, IsTrue}
use Rattle.hdl_auth.specs.declared.algorithm.Algorithm.{Algorithm}
use Rattle.hdl_auth.specs.declared.algorithm.Algorithm.TheVariants.{Sha1}
use Rattle.hdl_auth.specs.Digest.{algorithm_of}
use Rattle.hdl_frame.specs.declared.envelope.Envelope.{Envelope}
use Rattle.hdl_rows.specs.Table.{Table}
use Rattle.hdl_msg.specs.Message.{Content}
use Rattle.hdl_msg.specs.Laws.{response_code_at}
use Rattle.hdl_msg.specs.Reply.{short_reply}
use Rattle.hdl_msg.specs.declared.replies.ReplyContent.{ReplyContent}
use Rattle.hdl_msg.specs.declared.replies.ReplyContent.TheVariants.{Empty}
use Rattle.hdl_msg.proofs.ReplyLaws.{code-short_reply}
use Rattle.hdl_ops.specs.Admission.{request_algorithm}
use Rattle.hdl_ops.specs.Decisions.{Level, Anyone, Proven, Decision, site_decision, Decides}
use Rattle.hdl_ops.specs.Laws.{content_by_code}
use Rattle.hdl_ops.proofs.Codes.{is_answer_code, code_fits, decides_code, tells_by_code_lem}
use Rattle.hdl_ops.proofs.SiteDecisions.{site_code, site_told}
use Rattle.hdl_events.specs.declared.Outcome.TheVariants.{Reply, Busy, Silent, CloseAfter}
use Rattle.hdl_laws.specs.Lanes.{LaneState}
use Rattle.hdl_laws.specs.Worlds.{World, hosts, algorithms, algorithms_for, lane_profile_for, owner, lane_of}
use Rattle.hdl_laws.specs.Tasks.{Message, Task, Ignore, Break, Malformed, Unknown, Late, Deny, Ask, Inform, Redeem, IsTask}
use Rattle.hdl_laws.specs.Effects.{Effect, Does, answer_octets, challenge_octets, answer_effect, challenge_effect}
use Rattle.hdl_laws.specs.Steps.{Turn, IsAnswerFor, IsStep}
use Rattle.hdl_laws.specs.Reveals.{IsReplyBy, asked_octets, site_by_code, Reveals, StepsTell}
use Rattle.hdl_laws.proofs.Codes.{reply_code, challenge_code}

silent_is_none : (octets : List ℕ) → Silent ≡ Reply octets → ⊥
silent_is_none octets e = cc

close_is_none : (octets short : List ℕ) → CloseAfter short ≡ Reply octets → ⊥
close_is_none octets short e = cc

busy_is_none : (octets short : List ℕ) → Busy short ≡ Reply octets → ⊥
busy_is_none octets short e = cc

same_reply : (octets sent : List ℕ) → Reply sent ≡ Reply octets → octets ≡ sent
same_reply octets sent e = cc

-- an answer is the one with its own code
by_its_code : (a : Algorithm) (moment : ℕ) (e : Envelope) (r : Content) (code : ℕ) (content : ℕ → ReplyContent) (octets : List ℕ) → IsTrue (is_answer_code code) → octets ≡ answer_octets a moment e r code (content code)
    → octets ≡ answer_octets a moment e r (response_code_at octets) (content (response_code_at octets))
by_its_code a moment e r code content octets fits is =
    let at : response_code_at octets ≡ code = ap response_code_at is ∙ reply_code a moment e.session e.request r code (content code) fits in
    is ∙ ap (λ c. answer_octets a moment e r c (content c)) (sym at)

-- a decision's answer tells what its code says
decided_reply : (hosted : List ℕ → Bool) (a : Algorithm) (t : Table) (moment : ℕ) (e : Envelope) (r : Content) (level : Level) (d : Decision) (octets : List ℕ) → Decides hosted a t r level d → octets ≡ answer_octets a moment e r d.code d.content
    → octets ≡ answer_octets a moment e r (response_code_at octets) (content_by_code t r level (response_code_at octets))
decided_reply hosted a t moment e r level d octets decided is =
    by_its_code a moment e r d.code (content_by_code t r level) octets (decides_code hosted a t r level d decided) (is ∙ ap (answer_octets a moment e r d.code) (tells_by_code_lem hosted a t r level d decided))

asked_reply : (hosted : List ℕ → Bool) (a : Algorithm) (t : Table) (s : LaneState) (m : Message) (r : Content) (d : Decision) (octets : List ℕ) (b : Bool) → d.code == 402 ≡ b → Decides hosted a t r Anyone d
    → (cond {A = Effect} b (challenge_effect a s m r) (answer_effect a s m r d)).outcome ≡ Reply octets → octets ≡ asked_octets a t m r s (response_code_at octets)
asked_reply hosted a t s m r d octets true coded decided is =
    let sent : octets ≡ challenge_octets a m.moment s.challenges.next m.envelope r m.nonce = same_reply octets _ is in
    let at : response_code_at octets ≡ 402 = ap response_code_at sent ∙ challenge_code a m.moment s.challenges.next m.envelope.request r m.nonce in
    sent ∙ ap (λ c. cond (c == 402) (challenge_octets a m.moment s.challenges.next m.envelope r m.nonce) (answer_octets a m.moment m.envelope r c (content_by_code t r Anyone c))) (sym at)
asked_reply hosted a t s m r d octets false coded decided is =
    let sent : octets ≡ answer_octets a m.moment m.envelope r d.code d.content = same_reply octets _ is in
    let at : response_code_at octets ≡ d.code = ap response_code_at sent ∙ reply_code a m.moment m.envelope.session m.envelope.request r d.code d.content (decides_code hosted a t r Anyone d decided) in
    let answer = answer_octets a m.moment m.envelope r (response_code_at octets) (content_by_code t r Anyone (response_code_at octets)) in
    decided_reply hosted a t m.moment m.envelope r Anyone d octets decided sent ∙ ap (λ b. cond b (challenge_octets a m.moment s.challenges.next m.envelope r m.nonce) answer) (sym (ap (λ c. c == 402) at ∙ coded))

does_tell : (hosted : List ℕ → Bool) (algorithms : List ℕ → Algorithm) (t : Table) (k : Task) (eff : Effect) (octets : List ℕ) → Does hosted algorithms t k eff → eff.outcome ≡ Reply octets → IsReplyBy algorithms t k (response_code_at octets) octets
does_tell hosted algorithms t (Ignore s) eff octets is e = silent_is_none octets (sym (ap (λ (x : Effect). x.outcome) is) ∙ e)
does_tell hosted algorithms t (Break session request s) eff octets is e = close_is_none octets _ (sym (ap (λ (x : Effect). x.outcome) is) ∙ e)
does_tell hosted algorithms t (Malformed m s) eff octets is e =
    let sent : octets ≡ short_reply 4 m.envelope = same_reply octets _ (sym (ap (λ (x : Effect). x.outcome) is) ∙ e) in
    sent ∙ ap (λ c. short_reply c m.envelope) (sym (ap response_code_at sent ∙ code-short_reply 4 m.envelope (code_fits 4 refl)))
does_tell hosted algorithms t (Unknown m r s) eff octets is e = by_its_code Sha1 m.moment m.envelope r 4 (λ c. Empty) octets refl (same_reply octets _ (sym (ap (λ (x : Effect). x.outcome) is) ∙ e))
does_tell hosted algorithms t (Late m r a s) eff octets is e = by_its_code a m.moment m.envelope r 405 (λ c. Empty) octets refl (same_reply octets _ (sym (ap (λ (x : Effect). x.outcome) is) ∙ e))
does_tell hosted algorithms t (Deny m r s) eff octets is e =
    by_its_code (request_algorithm algorithms r) m.moment m.envelope r 5 (λ c. Empty) octets refl (same_reply octets _ (sym (ap (λ (x : Effect). x.outcome) is) ∙ e))
does_tell hosted algorithms t (Ask m r s) eff octets is e = asked_reply hosted (request_algorithm algorithms r) t s m r is.0 octets (is.0.code == 402) refl is.1 (sym (ap (λ (x : Effect). x.outcome) is.2) ∙ e)
does_tell hosted algorithms t (Inform m r site s) eff octets is e =
    let d = site_decision Sha1 r site in
    by_its_code Sha1 m.moment m.envelope r d.code (site_by_code site) octets (site_code Sha1 r site)
    (same_reply octets _ (sym (ap (λ (x : Effect). x.outcome) is) ∙ e) ∙ ap (answer_octets Sha1 m.moment m.envelope r d.code) (site_told Sha1 r site))
does_tell hosted algorithms t (Redeem m r p s) eff octets is e = decided_reply hosted (algorithm_of p.digest) t m.moment m.envelope r (Proven p) is.0 octets is.1 (same_reply octets _ (sym (ap (λ (x : Effect). x.outcome) is.2) ∙ e))

step_tells : (w : World) (t : Turn) → IsStep w t → Reveals w t.event t.outcome
step_tells w t (inl a) octets e = by_owner (owner w.site t.event.lane) a
  where
    by_owner : (o : Option ℕ) → IsAnswerFor w o t → (k : Task) × IsTask (lane_profile_for w.site o) (lane_of w t.event.lane) t.event.what k × IsReplyBy (algorithms_for w.site o) w.table k (response_code_at octets) octets
    by_owner None is = absurd (silent_is_none octets (sym (ap (λ (z : Turn). z.outcome) is) ∙ e))
    by_owner (Some u) is =
        (is.1, is.2, does_tell (hosts w.site u) (algorithms w.site u) w.table is.1 is.0 octets is.3 (sym (ap (λ (z : Turn). z.outcome) is.4) ∙ e))
step_tells w t (inr b) octets e = absurd (busy_is_none octets _ (sym (ap (λ (z : Turn). z.outcome) b.busy) ∙ e))

pub steps_tell : StepsTell
steps_tell w new e o s = subst (λ x. Reveals w x o) s.2 (subst (λ x. Reveals w s.0.event x) s.3 (step_tells w s.0 s.1))
