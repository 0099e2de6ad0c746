-- The codes of outcomes: each stands at its place, and no answer has that of busy.
use Rattle.std.proofs.Common.{◌≡◌, ℕ, List, Bool, true, false, cond, ◌==◌, refl, sym, ap, ◌∙◌, IsTrue}
use Rattle.std.proofs.lemmas.Bool.{eqb-true}
use Rattle.hdl_auth.specs.declared.algorithm.Algorithm.{Algorithm}
use Rattle.hdl_auth.specs.declared.algorithm.Algorithm.TheVariants.{Sha1}
use Rattle.hdl_auth.specs.Digest.{algorithm_of}
use Rattle.hdl_rows.specs.Table.{Table}
use Rattle.hdl_msg.specs.Message.{Content}
use Rattle.hdl_msg.specs.Laws.{response_code_at}
use Rattle.hdl_msg.specs.Reply.{reply_octets}
use Rattle.hdl_msg.specs.declared.replies.ReplyContent.{ReplyContent}
use Rattle.hdl_msg.specs.declared.replies.ReplyContent.TheVariants.{Empty}
use Rattle.hdl_msg.proofs.ReplyLaws.{code_at_its_place_lem, code-short_reply}
use Rattle.hdl_ops.specs.Admission.{request_algorithm}
use Rattle.hdl_ops.specs.Replies.{reply_to, challenge_to}
use Rattle.hdl_ops.specs.Decisions.{Anyone, Proven, Decision, failure, site_decision}
use Rattle.hdl_ops.proofs.Codes.{is_answer_code, code_fits, decides_code}
use Rattle.hdl_ops.proofs.SiteDecisions.{site_code}
use Rattle.hdl_laws.specs.Lanes.{LaneState}
use Rattle.hdl_laws.specs.Tasks.{Message, Task, Ignore, Break, Malformed, Unknown, Late, Deny, Ask, Inform, Redeem}
use Rattle.hdl_laws.specs.Effects.{Effect, Does, ask_effect, answer_effect, challenge_effect}
use Rattle.hdl_laws.specs.Isolation.{code_of}

pub reply_code : (a : Algorithm) (moment session number : ℕ) (r : Content) (code : ℕ) (content : ReplyContent) → IsTrue (is_answer_code code) → response_code_at (reply_octets (reply_to a moment session number r code content)) ≡ code
unfolding reply_to
reply_code a moment session number r code content e = code_at_its_place_lem (reply_to a moment session number r code content) (code_fits code e)

pub challenge_code : (a : Algorithm) (moment session number : ℕ) (r : Content) (nonce : List ℕ) → response_code_at (reply_octets (challenge_to a moment session number r nonce)) ≡ 402
unfolding challenge_to
challenge_code a moment session number r nonce = code_at_its_place_lem (challenge_to a moment session number r nonce) (code_fits 402 refl)

-- the outcome has the decision's code
pub answer_code : (a : Algorithm) (s : LaneState) (m : Message) (r : Content) (d : Decision) → IsTrue (is_answer_code d.code) → code_of (answer_effect a s m r d).outcome ≡ d.code
answer_code a s m r d e = reply_code a m.moment m.envelope.session m.envelope.request r d.code d.content e

pub ask_code : (a : Algorithm) (s : LaneState) (m : Message) (r : Content) (d : Decision) → IsTrue (is_answer_code d.code) → code_of (ask_effect a s m r d).outcome ≡ d.code
ask_code a s m r d e = pick (d.code == 402) refl
  where
    pick : (b : Bool) → d.code == 402 ≡ b → code_of (cond {A = Effect} b (challenge_effect a s m r) (answer_effect a s m r d)).outcome ≡ d.code
    pick true is = challenge_code a m.moment _ m.envelope.request r m.nonce ∙ sym (eqb-true d.code 402 is)
    pick false is = answer_code a s m r d e

abbrev has_answer_code : Effect → Bool
has_answer_code eff = is_answer_code (code_of eff.outcome)

pub does_code : (hosted : List ℕ → Bool) (algorithms : List ℕ → Algorithm) (t : Table) (k : Task) (x : Effect) → Does hosted algorithms t k x → IsTrue (is_answer_code (code_of x.outcome))
does_code hosted algorithms t (Ignore s) x a = ap has_answer_code a
does_code hosted algorithms t (Break session request s) x a = ap has_answer_code a
does_code hosted algorithms t (Malformed m s) x a = ap has_answer_code a ∙ ap is_answer_code (code-short_reply 4 m.envelope (code_fits 4 refl))
does_code hosted algorithms t (Unknown m r s) x a = ap has_answer_code a ∙ ap is_answer_code (answer_code Sha1 s m r (failure 4 Empty) refl)
does_code hosted algorithms t (Late m r c s) x a = ap has_answer_code a ∙ ap is_answer_code (answer_code c s m r (failure 405 Empty) refl)
does_code hosted algorithms t (Deny m r s) x a = ap has_answer_code a ∙ ap is_answer_code (answer_code (request_algorithm algorithms r) s m r (failure 5 Empty) refl)
does_code hosted algorithms t (Ask m r s) x a =
    let e = decides_code hosted (request_algorithm algorithms r) t r Anyone a.0 a.1 in
    ap has_answer_code a.2 ∙ ap is_answer_code (ask_code (request_algorithm algorithms r) s m r a.0 e) ∙ e
does_code hosted algorithms t (Inform m r site s) x a =
    let e = site_code Sha1 r site in
    ap has_answer_code a ∙ ap is_answer_code (answer_code Sha1 s m r (site_decision Sha1 r site) e) ∙ e
does_code hosted algorithms t (Redeem m r p s) x a =
    let e = decides_code hosted (algorithm_of p.digest) t r (Proven p) a.0 a.1 in
    ap has_answer_code a.2 ∙ ap is_answer_code (answer_code (algorithm_of p.digest) s m r a.0 e) ∙ e
