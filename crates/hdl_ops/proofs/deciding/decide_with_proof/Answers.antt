use Rattle.std.proofs.Common.{◌≡◌, sym, ◌∙◌}
use Rattle.std.proofs.lemmas.Bool.{eqb-true}
use Rattle.hdl_msg.specs.Codes.{response_number}
use Rattle.hdl_rows.proofs.Changes.{if_ok_then}
use Rattle.hdl_ops.specs.Views.{proof_of}
use Rattle.hdl_ops.proofs.Bare.{proof_failed, proof_granted}
use Rattle.hdl_ops.proofs.Costs.{sight_read, proof_seen, proof_coded, proof_read}
use Rattle.hdl_ops.proofs.deciding.decide_with_proof.Goals as goal

pub returns-in_err-seen-clause-cost : goal.returns-in_err-seen-clause-cost
returns-in_err-seen-clause-cost g c = proof_seen (g.R.Rows.content c.args.rows.now) (proof_of c.args.proof.now) c.args.asked.now.request.now.operation _ _ (sight_read _ c.args.asked.now.request.now _ _ c.look.ensures.cost)

pub returns-in_err-code-clause-cost : goal.returns-in_err-code-clause-cost
returns-in_err-code-clause-cost g c =
    proof_coded (g.R.Rows.content c.args.rows.now) (g.R.Rows.content c.look.new.rows) (proof_of c.args.proof.now) c.args.asked.now.request.now.operation _ _ _ c.look.ensures.unchanged (sight_read _ c.args.asked.now.request.now _ _ c.look.ensures.cost) c.code_for_proof.ensures.cost

pub returns-in_err-seen-2-clause-cost : goal.returns-in_err-seen-2-clause-cost
returns-in_err-seen-2-clause-cost g c =
    proof_read (g.R.Rows.content c.args.rows.now) (g.R.Rows.content c.look.new.rows) (g.R.Rows.content c.code_for_proof.new.rows) (proof_of c.args.proof.now) c.args.asked.now.request.now.operation _ _ _ _ c.look.ensures.unchanged c.code_for_proof.ensures.unchanged
    (sight_read _ c.args.asked.now.request.now _ _ c.look.ensures.cost) c.code_for_proof.ensures.cost c.see.ensures.cost

pub returns-then-is_granted-clause-cost : goal.returns-then-is_granted-clause-cost
returns-then-is_granted-clause-cost g c =
    proof_read (g.R.Rows.content c.args.rows.now) (g.R.Rows.content c.look.new.rows) (g.R.Rows.content c.code_for_proof.new.rows) (proof_of c.args.proof.now) c.args.asked.now.request.now.operation _ _ _ _ c.look.ensures.unchanged c.code_for_proof.ensures.unchanged
    (sight_read _ c.args.asked.now.request.now _ _ c.look.ensures.cost) c.code_for_proof.ensures.cost c.see.ensures.cost

pub returns-then-is_granted-clause-decided : goal.returns-then-is_granted-clause-decided
returns-then-is_granted-clause-decided g c =
    let granted : response_number c.in_ok-code.code ≡ 1 = eqb-true _ 1 (sym c.is_granted.ensures ∙ c.if-is_granted.true) in
    if_ok_then c.whole_decision.result _ _
    (λ d decided. proof_granted c.args.asked.now.algorithm (g.R.Rows.content c.args.rows.now) (g.R.Rows.content c.look.new.rows) (g.R.Rows.content c.code_for_proof.new.rows) c.args.asked.now.request.now (proof_of c.args.proof.now) _ _ _
    c.look.ensures.unchanged (c.code_for_proof.ensures.unchanged ∙ c.look.ensures.unchanged) c.in_ok-code.ensures.code granted (c.in_ok-seen-2.ensures.decision c.args.asked.now.algorithm) decided)
    c.whole_decision.ensures.decided

pub returns-clause-cost : goal.returns-clause-cost
returns-clause-cost g c =
    proof_coded (g.R.Rows.content c.args.rows.now) (g.R.Rows.content c.look.new.rows) (proof_of c.args.proof.now) c.args.asked.now.request.now.operation _ _ _ c.look.ensures.unchanged (sight_read _ c.args.asked.now.request.now _ _ c.look.ensures.cost) c.code_for_proof.ensures.cost

pub returns-clause-decided : goal.returns-clause-decided
returns-clause-decided g c =
    if_ok_then c.whole_decision-2.result _ _
    (λ d decided. proof_failed c.args.asked.now.algorithm (g.R.Rows.content c.args.rows.now) (g.R.Rows.content c.look.new.rows) c.args.asked.now.request.now (proof_of c.args.proof.now) _ _ _ c.look.ensures.unchanged c.in_ok-code.ensures.code
    (sym c.is_granted.ensures ∙ c.if-is_granted.false) decided)
    c.whole_decision-2.ensures.decided
