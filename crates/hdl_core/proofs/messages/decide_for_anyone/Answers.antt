use Rattle.std.proofs.Common.{◌≡◌, ◌==◌, true, false, refl, sym, ◌∙◌, ap, subst}
use Rattle.hdl_msg.specs.Codes.{response_number}
use Rattle.hdl_ops.proofs.Announced.{answer_announced_lem}
use Rattle.hdl_ops.specs.Decisions.{Anyone}
use Rattle.hdl_ops.specs.declared.decision.HashedRequest.{HashedRequest}
use Rattle.hdl_ops.specs.Tables.{apply_if}
use Rattle.hdl_ops.specs.Views.{decision_of, hosted_by}
use Rattle.hdl_laws.specs.Effects.{answer_octets}
use Rattle.hdl_core.specs.Serving.{challenge_of_request, context, HasItsCode, IsDecidedForAnyone}
use Rattle.hdl_core.specs.declared.messages.RequestResult.{RequestResult}
use Rattle.hdl_core.proofs.Answered.{on_ok, named_decides}
use Rattle.hdl_ops.specs.Cost.{anyone_cost}
use Rattle.hdl_ops.proofs.Costs.{by_anyone}
use Rattle.hdl_core.proofs.Costs.{then_nothing}
use Rattle.hdl_core.proofs.messages.decide_for_anyone.Goals as goal

pub returns-then-is_challenged-clause-asked : goal.returns-then-is_challenged-clause-asked
returns-then-is_challenged-clause-asked g c =
    let r = c.args.request.now in
    let m = c.args.origin.now in
    let t = g.R.Rows.content c.args.rows.now in
    let needed : (response_number c.in_ok-decision.decision.code == 402) ≡ true = sym c.is_challenged.ensures ∙ c.if-is_challenged.true in
    let named = c.in_ok-named.ensures.asked in
    on_ok c.challenge.result _ _
    (λ heard is. subst (λ (h : RequestResult). IsDecidedForAnyone (context c.args.lane_context.now t) m c.args.next r h (g.R.Rows.content c.decide.new.rows)) (sym (is ∙ ap (λ (x : HashedRequest). challenge_of_request x.algorithm m c.args.next x.request.now) named)) (
      decision_of c.in_ok-decision.decision,
      named_decides t Anyone (decision_of c.in_ok-decision.decision) c.in_ok-named.ensures.owner named c.in_ok-decision.ensures.decided,
      needed,
      refl,
      refl,
      c.decide.ensures.unchanged,
    ))
    c.challenge.ensures.challenged

pub returns-clause-asked : goal.returns-clause-asked
returns-clause-asked g c =
    let d = decision_of c.in_ok-decision.decision in
    let answered : (response_number c.in_ok-decision.decision.code == 402) ≡ false = sym c.is_challenged.ensures ∙ c.if-is_challenged.false in
    let named = c.in_ok-named.ensures.asked in (
      d,
      named_decides (g.R.Rows.content c.args.rows.now) Anyone d c.in_ok-named.ensures.owner named c.in_ok-decision.ensures.decided,
      answered,
      c.in_ok-octets.ensures.reply ∙ ap (λ (x : HashedRequest). answer_octets x.algorithm c.args.origin.now.moment c.args.origin.now.envelope x.request.now d.code d.content) named,
      c.in_ok-octets.ensures.done ∙ ap (λ t. apply_if t c.args.origin.now.moment c.in_ok-decision.decision.change) c.decide.ensures.unchanged,
    )

pub returns-clause-read : goal.returns-clause-read
returns-clause-read g c = λ has.
    let answered : (response_number c.in_ok-decision.decision.code == 402) ≡ false = sym c.is_challenged.ensures ∙ c.if-is_challenged.false in
    let e = c.args.origin.now.envelope in
    let asked = c.in_ok-named.named.asked in
    c.in_ok-octets.ensures.read
    (answer_announced_lem (hosted_by c.in_ok-named.named.owner.now) asked.algorithm (g.R.Rows.content c.args.rows.now) asked.request.now Anyone (decision_of c.in_ok-decision.decision) c.args.origin.now.moment e.session e.request (subst (λ (x : HashedRequest). HasItsCode x.request.now) (sym c.in_ok-named.ensures.asked) has) c.in_ok-decision.ensures.decided answered)

pub returns-in_err-decision-clause-cost : goal.returns-in_err-decision-clause-cost
returns-in_err-decision-clause-cost g c = by_anyone (g.R.Rows.content c.args.rows.now) c.in_ok-named.named.asked.request.now.operation _ _ c.decide.ensures.cost

pub returns-then-is_challenged-clause-cost : goal.returns-then-is_challenged-clause-cost
returns-then-is_challenged-clause-cost g c = by_anyone (g.R.Rows.content c.args.rows.now) c.in_ok-named.named.asked.request.now.operation _ _ c.decide.ensures.cost

pub returns-in_err-octets-clause-cost : goal.returns-in_err-octets-clause-cost
returns-in_err-octets-clause-cost g c = then_nothing (g.R.Rows.content c.args.rows.now) anyone_cost _ _ _ (by_anyone (g.R.Rows.content c.args.rows.now) c.in_ok-named.named.asked.request.now.operation _ _ c.decide.ensures.cost) c.answer.ensures.reads

pub returns-clause-cost : goal.returns-clause-cost
returns-clause-cost g c = then_nothing (g.R.Rows.content c.args.rows.now) anyone_cost _ _ _ (by_anyone (g.R.Rows.content c.args.rows.now) c.in_ok-named.named.asked.request.now.operation _ _ c.decide.ensures.cost) c.answer.ensures.reads
