-- The operation that the trail sees is that of the message, and what is decided with a proof is never malformed.
use Rattle.std.proofs.Common.{◌≡◌, ℕ, List, ◌++◌, length, Bool, true, false, cond, not, eqb, Option, Some, None, is_some, refl, sym, ap, ◌∙◌, IsTrue, arith}
use Rattle.std.proofs.lemmas.Bool.{le-leb, not-true, ne_eqb}
use Rattle.std.proofs.lemmas.Nat.{from_be_bytes-to_be_bytes_4}
use Rattle.hdl_value.specs.declared.value.Value.{Value}
use Rattle.hdl_value.specs.Spelling.{string}
use Rattle.hdl_rows.specs.Table.{Table}
use Rattle.hdl_auth.specs.declared.algorithm.Algorithm.{Algorithm}
use Rattle.hdl_msg.specs.Codes.{IsNumberOf}
use Rattle.hdl_msg.specs.declared.codes.OpCode.TheVariants.{ChallengeResponse}
use Rattle.hdl_value.specs.declared.wire.Wire.{Wire}
use Rattle.hdl_msg.specs.Message.{Content, SpellsRequest, Operation, code_of, resolution, create, delete, add, remove, modify, list, response, other, site_info, header_octets, signed_octets}
use Rattle.hdl_ops.specs.First.{or_code}
use Rattle.hdl_ops.specs.Admission.{refusal}
use Rattle.hdl_ops.specs.Requests.{response_of}
use Rattle.hdl_ops.specs.TableViews.{TableView, table_view}
use Rattle.hdl_ops.specs.Proven.{Proof, key_of, value_at, code_before_key, code_after_key, code_for_key, IsCodeBy}
use Rattle.hdl_ops.specs.Replies.{fits}
use Rattle.hdl_ops.specs.Decisions.{Level, Proven, Decision, Decides, DecidesBy, decision, refusal_decision, success, failure, carried_content}
use Rattle.hdl_msg.specs.declared.replies.ReplyContent.TheVariants.{Empty}
use Rattle.hdl_ops.proofs.Codes.{codes_pass}
use Rattle.hdl_frame.specs.Envelope.{u32_at}
use Rattle.hdl_peers.specs.Exchange.{number_at}
use Rattle.hdl_peers.specs.Followed.{is_response}

-- ---- the operation

number_read : (wire : Wire) (m : List ℕ) (c : Content) → SpellsRequest wire m c → number_at m 0 ≡ Some c.header.op_code
unfolding header_octets
number_read wire m c s =
    let octets : List ℕ = signed_octets c ++ string s.credential in
    ap (λ (t : List ℕ). number_at t 0) s.spelt
    ∙ ap (λ (b : Bool). cond b (Some (u32_at octets 0)) None) (le-leb 4 (length octets) (omega arith))
    ∙ ap Some (from_be_bytes-to_be_bytes_4 c.header.op_code s.header_fits.op_code)

response_number : (o : Operation) (n : ℕ) → IsNumberOf (code_of o) n → eqb n 200 ≡ is_some (response_of o)
response_number (resolution handle indexes types) n is = ap (λ (k : ℕ). eqb k 200) is
response_number (create handle values) n is = ap (λ (k : ℕ). eqb k 200) is
response_number (delete handle) n is = ap (λ (k : ℕ). eqb k 200) is
response_number (add handle values) n is = ap (λ (k : ℕ). eqb k 200) is
response_number (remove handle indexes) n is = ap (λ (k : ℕ). eqb k 200) is
response_number (modify handle values) n is = ap (λ (k : ℕ). eqb k 200) is
response_number (list handle) n is = ap (λ (k : ℕ). eqb k 200) is
response_number (response kind handle index answer) n is = ap (λ (k : ℕ). eqb k 200) is
response_number (site_info octets) n is = ap (λ (k : ℕ). eqb k 200) is
response_number (other octets) n is = ne_eqb n 200 (is ChallengeResponse)

-- the message of a request brings a challenge response just where the request is one
pub response_seen : (wire : Wire) (m : List ℕ) (c : Content) → SpellsRequest wire m c → is_response (number_at m 0) ≡ is_some (response_of c.operation)
response_seen wire m c s = ap is_response (number_read wire m c s) ∙ response_number c.operation c.header.op_code s.has_code

-- ---- codes

abbrev no_fault : ℕ → Bool
no_fault c = not (eqb c 4)

before_code : (s : TableView) (r : Content) (p : Proof) → IsTrue (no_fault (or_code (code_before_key s r p) 0))
unfolding code_before_key
before_code s r p = codes_pass no_fault _ 0 refl refl

key_code : (s : TableView) (r : Content) (p : Proof) (m : Option ℕ) (k : Option Value) → IsTrue (no_fault (code_for_key s r p m k))
unfolding code_after_key
key_code s r p None k = refl
key_code s r p (Some m) k = codes_pass no_fault _ 1 refl refl

proof_code : (t : Table) (r : Content) (p : Proof) (early : Option ℕ) (c : ℕ) → IsTrue (no_fault (or_code early 0)) → IsCodeBy t r p early c → IsTrue (no_fault c)
proof_code t r p (Some e) c f is = ap no_fault is ∙ f
proof_code t r p None c f is = ap no_fault is.2 ∙ key_code (table_view t r) r p is.0 (value_at t (key_of p))

refusal_code : (hosts : List ℕ → Bool) (r : Content) → IsTrue (no_fault (or_code (refusal hosts r) 0))
unfolding refusal
refusal_code hosts r = codes_pass no_fault _ 0 refl refl

decision_code : (a : Algorithm) (s : TableView) (r : Content) (level : Level) (c : ℕ) → IsTrue (no_fault c) → IsTrue (no_fault (decision a s r level c).code)
unfolding decision
decision_code a s r level c f = pick (eqb c 1) (fits a r (carried_content s r level))
  where
    pick : (x b : Bool) → IsTrue (no_fault (cond {A = Decision} x (cond {A = Decision} b (success s r level) (failure 2 Empty)) (failure c Empty)).code)
    pick true true = refl
    pick true false = refl
    pick false b = f

module _ (hosts : List ℕ → Bool) (a : Algorithm) (t : Table) (r : Content) (p : Proof) (d : Decision) where
  code_by : (c : Option ℕ) → refusal hosts r ≡ c → DecidesBy a t r (Proven p) c d → IsTrue (no_fault d.code)
  unfolding refusal_decision
  code_by (Some c) e is = ap (λ (x : Decision). no_fault x.code) is ∙ ap (λ (o : Option ℕ). no_fault (or_code o 0)) (sym e) ∙ refusal_code hosts r
  code_by None e is =
      ap (λ (x : Decision). no_fault x.code) is.2 ∙ decision_code a (table_view t r) r (Proven p) is.0 (proof_code t r p (code_before_key (table_view t r) r p) is.0 (before_code (table_view t r) r p) is.1)

  -- what is decided with a proof isn't out of the grammar
  pub proven_no_fault : Decides hosts a t r (Proven p) d → eqb d.code 4 ≡ false
  proven_no_fault decided = not-true (eqb d.code 4) (code_by (refusal hosts r) refl decided)
