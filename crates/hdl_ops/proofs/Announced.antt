-- The header of the reply to a request announces what the reply carries.
use Rattle.std.proofs.Common.{◌≡◌, ℕ, List, ◌∷◌, Bool, true, false, cond, not, ◌||◌, ◌==◌, Option, Some, None, refl, sym, ap, ◌∙◌, subst, IsTrue}
use Rattle.std.specs.Prelude.{is_some, bit_and}
use Rattle.std.proofs.lemmas.Bool.{eqb-true, not-true}
use Rattle.std.proofs.lemmas.Nat.{and_assoc}
use Rattle.hdl_name.specs.Name.{sent_prefix}
use Rattle.hdl_auth.specs.declared.algorithm.Algorithm.{Algorithm}
use Rattle.hdl_auth.specs.declared.algorithm.Digest.{Digest}
use Rattle.hdl_value.specs.declared.value.Value.{Value}
use Rattle.hdl_rows.specs.Table.{Table}
use Rattle.hdl_msg.specs.declared.codes.OpFlag.TheVariants.{ReturnDigest}
use Rattle.hdl_msg.specs.declared.replies.ReplyContent.{ReplyContent}
use Rattle.hdl_msg.specs.declared.replies.ReplyContent.TheVariants.{Referral, Empty}
use Rattle.hdl_msg.specs.declared.reply_view.ReplyForm.{ReplyForm}
use Rattle.hdl_msg.specs.declared.reply_view.ReplyForm.TheVariants as form
use Rattle.hdl_msg.specs.Codes.{op_code_of, IsNumberOf, has_flag, flag_bit}
use Rattle.hdl_msg.specs.Message.{Content, Operation, resolution, site_info, create, delete, add, remove, modify, list, response, other, code_of}
use Rattle.hdl_msg.specs.Reply.{answer_header, reply_parts, IsAnnounced, announces_digest, announced_form, success_form, form_of}
use Rattle.hdl_msg.proofs.OpCodes.{op_code_again}
use Rattle.hdl_ops.specs.First.{first, or_code}
use Rattle.hdl_ops.specs.Admission.{refusal}
use Rattle.hdl_ops.specs.Decisions.{Level, Proven, Decision, Decides, DecidesBy, decision, success, failure, refusal_decision, carried_content, carried_by}
use Rattle.hdl_ops.specs.Laws.{content_by_code}
use Rattle.hdl_ops.specs.Proven.{Proof, key_of, value_at, code_before_key, code_after_key, code_for_key, IsCodeBy}
use Rattle.hdl_ops.specs.Replies.{digest_of, asked_digest, fits, reply_to, challenge_to}
use Rattle.hdl_ops.specs.Requests.{sent_handle, is_unused, wants_digest}
use Rattle.hdl_ops.specs.TableViews.{TableView, table_view}
use Rattle.hdl_ops.proofs.Codes.{codes_pass, tells_by_code_lem}

-- ---- the digest

flag_again : (flags : ℕ) → has_flag (bit_and flags (flag_bit ReturnDigest)) ReturnDigest ≡ has_flag flags ReturnDigest
flag_again flags = ap (λ (n : ℕ). not (n == 0)) (and_assoc 0x00800000 flags 0x00800000)

is_some_if : (b : Bool) (d : Digest) → is_some (cond b (Some d) None) ≡ b
is_some_if true d = refl
is_some_if false d = refl

or_false : (b c : Bool) → c ≡ false → b || c ≡ b
or_false true c e = refl
or_false false c e = e

or_true : (b : Bool) → b || true ≡ true
or_true true = refl
or_true false = refl

pub digest_announced : (a : Algorithm) (r : Content) (code : ℕ) → code == 402 ≡ false → is_some (asked_digest a r) ≡ announces_digest (answer_header r.header code)
digest_announced a r code e = is_some_if (wants_digest r) (digest_of a r) ∙ sym (flag_again r.header.op_flag) ∙ sym (or_false (has_flag (bit_and r.header.op_flag (flag_bit ReturnDigest)) ReturnDigest) (code == 402) e)

-- ---- the form of the content

carried_form : (o : Operation) (s : TableView) (r : Content) (level : Level) → is_unused o ≡ false → form_of (carried_by o s r level) ≡ success_form (code_of o)
carried_form (resolution handle indexes types) s r level e = refl
carried_form (create handle values) s r level e = refl
carried_form (delete handle) s r level e = refl
carried_form (add handle values) s r level e = refl
carried_form (remove handle indexes) s r level e = refl
carried_form (modify handle values) s r level e = refl
carried_form (list handle) s r level e = refl
carried_form (response kind handle index answer) s r level e = absurd cc
carried_form (site_info octets) s r level e = absurd cc
carried_form (other octets) s r level e = absurd cc

first_row : (b : Bool) (c : ℕ) (rows : List (Bool × ℕ)) → b ≡ true → first ((b, c) ∷ rows) ≡ Some c
unfolding first
first_row true c rows e = refl
first_row false c rows e = absurd cc

unused_refusal : (hosts : List ℕ → Bool) (r : Content) → is_unused r.operation ≡ true → refusal hosts r ≡ Some 5
unfolding refusal
unused_refusal hosts r e = first_row (is_unused r.operation) 5 _ e

module _ (hosts : List ℕ → Bool) (a : Algorithm) (t : Table) (r : Content) (level : Level) where
  unused_code : (d : Decision) → is_unused r.operation ≡ true → Decides hosts a t r level d → d.code ≡ 5
  unfolding refusal_decision
  unused_code d e decided = ap (λ (x : Decision). x.code) (subst (λ (c : Option ℕ). DecidesBy a t r level c d) (unused_refusal hosts r e) decided)

  used : (d : Decision) → Decides hosts a t r level d → d.code ≡ 1 → is_unused r.operation ≡ false
  used d decided one = by (is_unused r.operation) refl
    where
      by : (b : Bool) → is_unused r.operation ≡ b → b ≡ false
      by false e = refl
      by true e = let five = sym one ∙ unused_code d e decided in absurd cc

  told_form : (code : ℕ) → IsNumberOf (code_of r.operation) r.header.op_code → (code ≡ 1 → is_unused r.operation ≡ false) → code == 402 ≡ false → form_of (content_by_code t r level code) ≡ announced_form (answer_header r.header code)
  unfolding announced_form
  told_form code has used e = pick (code == 1) refl (code == 302) (code == 402) e
    where
      pick : (x : Bool) → code == 1 ≡ x → (y z : Bool) → z ≡ false
          → form_of (cond {A = ReplyContent} x (carried_content (table_view t r) r level) (cond {A = ReplyContent} y (Referral (sent_prefix (sent_handle r.operation))) Empty))
          ≡ cond {A = ReplyForm} x (success_form (op_code_of r.header.op_code)) (cond {A = ReplyForm} y form.Referral (cond {A = ReplyForm} z form.Nonce form.Empty))
      pick true is y z e = carried_form r.operation (table_view t r) r level (used (eqb-true _ _ is)) ∙ ap success_form (sym (op_code_again (code_of r.operation) r.header.op_code has))
      pick false is true z e = refl
      pick false is false true e = absurd cc
      pick false is false false e = refl

  pub answer_announced_lem : (d : Decision) (moment session number : ℕ) → IsNumberOf (code_of r.operation) r.header.op_code → Decides hosts a t r level d → d.code == 402 ≡ false → IsAnnounced (reply_parts (reply_to a moment session number r d.code d.content))
  unfolding reply_to announced_form
  answer_announced_lem d moment session number has decided e = record {
    digest = digest_announced a r d.code e;
    form = ap form_of (tells_by_code_lem hosts a t r level d decided) ∙ told_form d.code has (used d decided) e;
  }

-- ---- replies that no table decides

pub protocol_error_announced : (a : Algorithm) (moment session number : ℕ) (r : Content) → IsAnnounced (reply_parts (reply_to a moment session number r 4 Empty))
unfolding reply_to announced_form
protocol_error_announced a moment session number r = record { digest = digest_announced a r 4 refl; form = refl }

pub timeout_announced : (a : Algorithm) (moment session number : ℕ) (r : Content) → IsAnnounced (reply_parts (reply_to a moment session number r 405 Empty))
unfolding reply_to announced_form
timeout_announced a moment session number r = record { digest = digest_announced a r 405 refl; form = refl }

pub challenge_announced_lem : (a : Algorithm) (moment session number : ℕ) (r : Content) (nonce : List ℕ) → IsAnnounced (reply_parts (challenge_to a moment session number r nonce))
unfolding challenge_to announced_form
challenge_announced_lem a moment session number r nonce = record { digest = sym (or_true (has_flag (bit_and r.header.op_flag (flag_bit ReturnDigest)) ReturnDigest)); form = refl }

-- ---- who comes with a proof isn't challenged again

abbrev no_challenge : ℕ → Bool
no_challenge c = not (c == 402)

before_code : (s : TableView) (r : Content) (p : Proof) → IsTrue (no_challenge (or_code (code_before_key s r p) 0))
unfolding code_before_key
before_code s r p = codes_pass no_challenge _ 0 refl refl

key_code : (s : TableView) (r : Content) (p : Proof) (m : Option ℕ) (k : Option Value) → IsTrue (no_challenge (code_for_key s r p m k))
unfolding code_after_key
key_code s r p None k = refl
key_code s r p (Some m) k = codes_pass no_challenge _ 1 refl refl

proof_code : (t : Table) (r : Content) (p : Proof) (early : Option ℕ) (c : ℕ) → IsTrue (no_challenge (or_code early 0)) → IsCodeBy t r p early c → IsTrue (no_challenge c)
proof_code t r p (Some e) c f is = ap no_challenge is ∙ f
proof_code t r p None c f is = ap no_challenge is.2 ∙ key_code (table_view t r) r p is.0 (value_at t (key_of p))

refusal_code : (hosts : List ℕ → Bool) (r : Content) → IsTrue (no_challenge (or_code (refusal hosts r) 0))
unfolding refusal
refusal_code hosts r = codes_pass no_challenge _ 0 refl refl

decision_code : (a : Algorithm) (s : TableView) (r : Content) (level : Level) (c : ℕ) → IsTrue (no_challenge c) → IsTrue (no_challenge (decision a s r level c).code)
unfolding decision
decision_code a s r level c f = pick (c == 1) (fits a r (carried_content s r level))
  where
    pick : (x b : Bool) → IsTrue (no_challenge (cond {A = Decision} x (cond {A = Decision} b (success s r level) (failure 2 Empty)) (failure c Empty)).code)
    pick true true = refl
    pick true false = refl
    pick false b = f

module _ (hosts : List ℕ → Bool) (a : Algorithm) (t : Table) (r : Content) (p : Proof) (d : Decision) where
  code_by : (c : Option ℕ) → refusal hosts r ≡ c → DecidesBy a t r (Proven p) c d → IsTrue (no_challenge d.code)
  unfolding refusal_decision
  code_by (Some c) e is = ap (λ (x : Decision). no_challenge x.code) is ∙ ap (λ (o : Option ℕ). no_challenge (or_code o 0)) (sym e) ∙ refusal_code hosts r
  code_by None e is =
      ap (λ (x : Decision). no_challenge x.code) is.2 ∙ decision_code a (table_view t r) r (Proven p) is.0 (proof_code t r p (code_before_key (table_view t r) r p) is.0 (before_code (table_view t r) r p) is.1)

  pub proven_code : Decides hosts a t r (Proven p) d → d.code == 402 ≡ false
  proven_code decided = not-true (d.code == 402) (code_by (refusal hosts r) refl decided)
