-- The codes of decisions, and what is told with each.
use Rattle.std.proofs.Common.{◌≡◌, ℕ, List, [], ◌∷◌, Bool, true, false, cond, not, ◌&&◌, ◌==◌, Option, Some, None, refl, sym, ap, ◌∙◌, subst, IsTrue, arith}
use Rattle.std.specs.Prelude.{nat_lt}
use Rattle.std.specs.List.{list_all}
use Rattle.std.proofs.lemmas.Bool.{ltb-true, not-true, and_parts}
use Rattle.hdl_name.specs.Name.{sent_prefix}
use Rattle.hdl_value.specs.declared.value.Value.{Value}
use Rattle.hdl_rows.specs.Table.{Table}
use Rattle.hdl_msg.specs.Message.{Content, IsNumber}
use Rattle.hdl_msg.specs.declared.replies.ReplyContent.TheVariants.{Referral, Empty}
use Rattle.hdl_ops.specs.First.{first, or_code}
use Rattle.hdl_ops.specs.Admission.{refusal}
use Rattle.hdl_ops.specs.Requests.{sent_handle}
use Rattle.hdl_ops.specs.TableViews.{TableView, table_view}
use Rattle.hdl_ops.specs.Anyone.{code_for_anyone}
use Rattle.hdl_ops.specs.Proven.{Proof, key_of, value_at, code_before_key, code_after_key, code_for_key, IsCodeBy}
use Rattle.hdl_auth.specs.declared.algorithm.Algorithm.{Algorithm}
use Rattle.hdl_ops.specs.Replies.{fits}
use Rattle.hdl_ops.specs.Decisions.{Level, Anyone, Proven, Decision, Decides, DecidesBy, decision, refusal_decision, success, failure, carried_content}
use Rattle.hdl_ops.specs.Laws.{content_by_code}

-- a code of at most three digits that isn't busy's
abbrev pub is_answer_code : ℕ → Bool
is_answer_code c = nat_lt c 1000 && not (c == 3)

-- one of the tests before the table is looked at: no success
abbrev is_refusal_code : ℕ → Bool
is_refusal_code c = is_answer_code c && not (c == 1)

-- one of the tests on the table: no referral
abbrev is_table_code : ℕ → Bool
is_table_code c = is_answer_code c && not (c == 302)

pub code_fits : (c : ℕ) → IsTrue (is_answer_code c) → IsNumber c
code_fits c e = let low = ltb-true c 1000 (and_parts _ _ e).0 in omega (arith, low)

pub not_busy : (c : ℕ) → IsTrue (is_answer_code c) → (c == 3) ≡ false
not_busy c e = not-true (c == 3) (and_parts (nat_lt c 1000) _ e).1

-- ---- the tables of decision

-- Where each row's code passes a test, and the code where no row holds, the table's code does, whatever the tests say.
pub codes_pass : (P : ℕ → Bool) (rows : List (Bool × ℕ)) (end : ℕ) → IsTrue (P end) → IsTrue (list_all (λ row. P row.1) rows) → IsTrue (P (or_code (first rows) end))
unfolding first
codes_pass P [] end p all = p
codes_pass P ((true, c) ∷ rows) end p all = (and_parts (P c) _ all).0
codes_pass P ((false, c) ∷ rows) end p all = codes_pass P rows end p (and_parts (P c) _ all).1

anyone_code : (s : TableView) (r : Content) → IsTrue (is_table_code (code_for_anyone s r))
unfolding code_for_anyone
anyone_code s r = codes_pass is_table_code _ 402 refl refl

before_code : (s : TableView) (r : Content) (p : Proof) → IsTrue (is_table_code (or_code (code_before_key s r p) 0))
unfolding code_before_key
before_code s r p = codes_pass is_table_code _ 0 refl refl

key_code : (s : TableView) (r : Content) (p : Proof) (m : Option ℕ) (k : Option Value) → IsTrue (is_table_code (code_for_key s r p m k))
unfolding code_after_key
key_code s r p None k = refl
key_code s r p (Some m) k = codes_pass is_table_code _ 1 refl refl

proof_code : (t : Table) (r : Content) (p : Proof) (early : Option ℕ) (c : ℕ) → IsTrue (is_table_code (or_code early 0)) → IsCodeBy t r p early c → IsTrue (is_table_code c)
proof_code t r p (Some e) c f is = ap is_table_code is ∙ f
proof_code t r p None c f is = ap is_table_code is.2 ∙ key_code (table_view t r) r p is.0 (value_at t (key_of p))

refusal_code : (hosts : List ℕ → Bool) (r : Content) → IsTrue (is_refusal_code (or_code (refusal hosts r) 0))
unfolding refusal
refusal_code hosts r = codes_pass is_refusal_code _ 0 refl refl

-- ---- what is told with a code

module _ (a : Algorithm) (t : Table) (r : Content) (level : Level) where
  -- the decision has the code of an answer, and tells what its code says
  abbrev TellsOnly : Decision → Type 0
  TellsOnly d = IsTrue (is_answer_code d.code) × (d.content ≡ content_by_code t r level d.code)

  decision_tells : (c : ℕ) → IsTrue (is_table_code c) → TellsOnly (decision a (table_view t r) r level c)
  unfolding decision
  decision_tells c e = pick (c == 1) refl (fits a r (carried_content (table_view t r) r level))
    where
      pick : (x : Bool) → c == 1 ≡ x → (b : Bool) → TellsOnly (cond {A = Decision} x (cond {A = Decision} b (success (table_view t r) r level) (failure 2 Empty)) (failure c Empty))
      pick true is true = (refl, refl)
      pick true is false = (refl, refl)
      pick false is b =
          let parts = and_parts (is_answer_code c) _ e in (
            parts.0,
            sym (ap (λ x. cond x (carried_content (table_view t r) r level) (cond (c == 302) (Referral (sent_prefix (sent_handle r.operation))) Empty)) is ∙ ap (λ x. cond x (Referral (sent_prefix (sent_handle r.operation))) Empty) (not-true (c == 302) parts.1)),
          )

  refused_tells : (c : ℕ) → IsTrue (is_refusal_code c) → TellsOnly (refusal_decision r c)
  unfolding refusal_decision
  refused_tells c e =
      let parts = and_parts (is_answer_code c) _ e in
      (parts.0, sym (ap (λ x. cond x (carried_content (table_view t r) r level) (cond (c == 302) (Referral (sent_prefix (sent_handle r.operation))) Empty)) (not-true (c == 1) parts.1)))

tells_by : (hosts : List ℕ → Bool) (a : Algorithm) (t : Table) (r : Content) (level : Level) (d : Decision) (c : Option ℕ) → refusal hosts r ≡ c → DecidesBy a t r level c d → TellsOnly a t r level d
tells_by hosts a t r level d (Some c) e is =
    subst (TellsOnly a t r level) (sym is) (refused_tells a t r level c (ap (λ o. is_refusal_code (or_code o 0)) (sym e) ∙ refusal_code hosts r))
tells_by hosts a t r Anyone d None e is = subst (TellsOnly a t r Anyone) (sym is) (decision_tells a t r Anyone _ (anyone_code (table_view t r) r))
tells_by hosts a t r (Proven p) d None e is =
    subst (TellsOnly a t r (Proven p)) (sym is.2) (decision_tells a t r (Proven p) is.0 (proof_code t r p (code_before_key (table_view t r) r p) is.0 (before_code (table_view t r) r p) is.1))

pub decides_code : (hosts : List ℕ → Bool) (a : Algorithm) (t : Table) (r : Content) (level : Level) (d : Decision) → Decides hosts a t r level d → IsTrue (is_answer_code d.code)
decides_code hosts a t r level d is = (tells_by hosts a t r level d (refusal hosts r) refl is).0

pub tells_by_code_lem : (hosts : List ℕ → Bool) (a : Algorithm) (t : Table) (r : Content) (level : Level) (d : Decision) → Decides hosts a t r level d → d.content ≡ content_by_code t r level d.code
tells_by_code_lem hosts a t r level d is = (tells_by hosts a t r level d (refusal hosts r) refl is).1
