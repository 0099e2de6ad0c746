use Rattle.std.proofs.Common.{◌≡◌, sym, ◌∙◌}
use Rattle.std.proofs.lemmas.Bool.{eqb-true}
use Rattle.hdl_msg.specs.Codes.{response_number}
use Rattle.hdl_rows.proofs.Changes.{if_ok_then}
use Rattle.hdl_ops.specs.Views.{table_view_of}
use Rattle.hdl_ops.proofs.Bare.{anyone_failed, anyone_granted}
use Rattle.hdl_ops.proofs.Costs.{sight_read, anyone_seen, anyone_read}
use Rattle.hdl_ops.proofs.deciding.decide_for_anyone.Goals as goal

pub returns-in_err-seen-clause-cost : goal.returns-in_err-seen-clause-cost
returns-in_err-seen-clause-cost g c = anyone_seen (g.R.Rows.content c.args.rows.now) c.args.asked.now.request.now.operation _ _ (sight_read _ c.args.asked.now.request.now _ _ c.look.ensures.cost)

pub returns-in_err-seen-2-clause-cost : goal.returns-in_err-seen-2-clause-cost
returns-in_err-seen-2-clause-cost g c =
    let granted : response_number c.code_for_anyone-code.result ≡ 1 = eqb-true _ 1 (sym c.is_granted.ensures ∙ c.if-is_granted.true) in
    anyone_read (g.R.Rows.content c.args.rows.now) (g.R.Rows.content c.look.new.rows) (table_view_of c.in_ok-seen.seen) c.args.asked.now.request.now _ _ _ _ c.look.ensures.unchanged c.code_for_anyone-code.ensures granted
    (sight_read _ c.args.asked.now.request.now _ _ c.look.ensures.cost) c.see.ensures.cost

pub returns-then-is_granted-clause-cost : goal.returns-then-is_granted-clause-cost
returns-then-is_granted-clause-cost g c =
    let granted : response_number c.code_for_anyone-code.result ≡ 1 = eqb-true _ 1 (sym c.is_granted.ensures ∙ c.if-is_granted.true) in
    anyone_read (g.R.Rows.content c.args.rows.now) (g.R.Rows.content c.look.new.rows) (table_view_of c.in_ok-seen.seen) c.args.asked.now.request.now _ _ _ _ c.look.ensures.unchanged c.code_for_anyone-code.ensures granted
    (sight_read _ c.args.asked.now.request.now _ _ c.look.ensures.cost) c.see.ensures.cost

pub returns-then-is_granted-clause-decided : goal.returns-then-is_granted-clause-decided
returns-then-is_granted-clause-decided g c =
    let granted : response_number c.code_for_anyone-code.result ≡ 1 = eqb-true _ 1 (sym c.is_granted.ensures ∙ c.if-is_granted.true) in
    if_ok_then c.whole_decision.result _ _
    (λ d decided. anyone_granted c.args.asked.now.algorithm _ _ c.args.asked.now.request.now _ _ _ _ c.look.ensures.unchanged c.in_ok-seen.ensures.table_view c.code_for_anyone-code.ensures granted (c.in_ok-seen-2.ensures.decision c.args.asked.now.algorithm) decided)
    c.whole_decision.ensures.decided

pub returns-clause-cost : goal.returns-clause-cost
returns-clause-cost g c = anyone_seen (g.R.Rows.content c.args.rows.now) c.args.asked.now.request.now.operation _ _ (sight_read _ c.args.asked.now.request.now _ _ c.look.ensures.cost)

pub returns-clause-decided : goal.returns-clause-decided
returns-clause-decided g c =
    if_ok_then c.whole_decision-2.result _ _
    (λ d decided. anyone_failed c.args.asked.now.algorithm _ c.args.asked.now.request.now _ _ _ c.in_ok-seen.ensures.table_view c.code_for_anyone-code.ensures (sym c.is_granted.ensures ∙ c.if-is_granted.false) decided)
    c.whole_decision-2.ensures.decided
