use Rattle.std.proofs.Common.{◌≡◌, ℕ, List, true, false, sym, ap, ◌∙◌, subst}
use Rattle.hdl_value.specs.declared.wire.Wire.{Wire}
use Rattle.hdl_msg.specs.Message.{SpellsRequest}
use Rattle.hdl_ops.proofs.Announced.{answer_announced_lem, proven_code, timeout_announced}
use Rattle.hdl_ops.specs.Decisions.{Proven}
use Rattle.hdl_ops.specs.Proven.{Proof}
use Rattle.hdl_ops.specs.Tables.{apply_if}
use Rattle.hdl_ops.specs.Views.{algorithms_by, decision_of, hosted_by, response_view, wire_by}
use Rattle.hdl_laws.specs.Tasks.{is_denied}
use Rattle.hdl_core.specs.Serving.{lane_profile_by}
use Rattle.hdl_core.proofs.Answered.{on_ok, on_both, named_decides, unreadable, denied_later, late, proven}
use Rattle.hdl_ops.specs.Cost.{proof_cost}
use Rattle.hdl_ops.proofs.Costs.{by_proof}
use Rattle.hdl_core.proofs.Costs.{then_nothing}
use Rattle.hdl_core.proofs.messages.redeem.Goals as goal

pub returns-in_default-clause-redeemed : goal.returns-in_default-clause-redeemed
returns-in_default-clause-redeemed g c =
    on_ok c.malformed_reply.result _ _
    (λ octets is. unreadable (lane_profile_by c.args.lane_context.now) (hosted_by c.args.lane_context.now.owner) (algorithms_by c.args.lane_context.now.owner) (g.R.Rows.content c.args.rows.now) c.args.origin.now (response_view c.args.response) c.args.pending.now octets
    (λ r spells. c.in_default.ensures.malformed r (subst (λ (w : Wire). SpellsRequest w c.as_slice.result.now r) (sym c.wire.ensures) (subst (λ (b : List ℕ). SpellsRequest (wire_by c.args.lane_context.now.owner) b r) (sym c.as_slice.ensures) spells))) is)
    c.malformed_reply.ensures.octets

pub returns-then-is_denied-clause-redeemed : goal.returns-then-is_denied-clause-redeemed
returns-then-is_denied-clause-redeemed g c =
    let never : true ≡ is_denied c.args.lane_context.now.takes_changes c.in-Ok.request.operation = sym c.if-is_denied.true ∙ c.is_denied.ensures ∙ ap (is_denied c.args.lane_context.now.takes_changes) c.body.ensures in
    on_ok c.deny.result _ _
    (λ octets is. denied_later (lane_profile_by c.args.lane_context.now) (hosted_by c.args.lane_context.now.owner) (algorithms_by c.args.lane_context.now.owner) (g.R.Rows.content c.args.rows.now) c.args.origin.now (response_view c.args.response) c.args.pending.now c.in-Ok.request octets
    (subst (λ (b : List ℕ). SpellsRequest (wire_by c.args.lane_context.now.owner) b c.in-Ok.request) c.as_slice.ensures (subst (λ (w : Wire). SpellsRequest w c.as_slice.result.now c.in-Ok.request) c.wire.ensures c.in-Ok.ensures.read)) never is)
    c.deny.ensures.denied

pub returns-then-is_late-clause-redeemed : goal.returns-then-is_late-clause-redeemed
returns-then-is_late-clause-redeemed g c =
    let allowed : false ≡ is_denied c.args.lane_context.now.takes_changes c.in-Ok.request.operation = sym c.if-is_denied.false ∙ c.is_denied.ensures ∙ ap (is_denied c.args.lane_context.now.takes_changes) c.body.ensures in
    on_ok c.code_reply.result _ _
    (λ octets is. late (lane_profile_by c.args.lane_context.now) (hosted_by c.args.lane_context.now.owner) (algorithms_by c.args.lane_context.now.owner) (g.R.Rows.content c.args.rows.now) c.args.origin.now (response_view c.args.response) c.args.pending.now c.in-Ok.request c.algorithm.result octets c.algorithm.ensures
    (subst (λ (b : List ℕ). SpellsRequest (wire_by c.args.lane_context.now.owner) b c.in-Ok.request) c.as_slice.ensures (subst (λ (w : Wire). SpellsRequest w c.as_slice.result.now c.in-Ok.request) c.wire.ensures c.in-Ok.ensures.read)) allowed (λ message. sym c.if-is_late.true ∙ c.is_late.ensures message) is)
    c.code_reply.ensures.reply

pub returns-clause-redeemed : goal.returns-clause-redeemed
returns-clause-redeemed g c =
    let allowed : false ≡ is_denied c.args.lane_context.now.takes_changes c.in-Ok.request.operation = sym c.if-is_denied.false ∙ c.is_denied.ensures ∙ ap (is_denied c.args.lane_context.now.takes_changes) c.body.ensures in
    let hosts = hosted_by c.args.lane_context.now.owner in
    let t = g.R.Rows.content c.args.rows.now in
    let p : Proof = record { response = response_view c.args.response; nonce = c.args.pending.now.nonce; digest = c.args.pending.now.digest } in
    let d = decision_of c.in_ok-decision.decision in
    on_both c.answer.result _ _ _
    (λ octets is table. proven (lane_profile_by c.args.lane_context.now) hosts (algorithms_by c.args.lane_context.now.owner) t c.args.origin.now (response_view c.args.response) c.args.pending.now c.in-Ok.request c.algorithm.result d octets (g.R.Rows.content c.answer.new.rows) c.algorithm.ensures
    (subst (λ (b : List ℕ). SpellsRequest (wire_by c.args.lane_context.now.owner) b c.in-Ok.request) c.as_slice.ensures (subst (λ (w : Wire). SpellsRequest w c.as_slice.result.now c.in-Ok.request) c.wire.ensures c.in-Ok.ensures.read)) allowed (λ message. sym c.if-is_late.false ∙ c.is_late.ensures message)
    (named_decides t (Proven p) d c.in_ok-named.ensures.owner c.in_ok-named.ensures.asked c.in_ok-decision.ensures.decided) is (table ∙ ap (λ t. apply_if t c.args.origin.now.moment c.in_ok-decision.decision.change) c.decide.ensures.unchanged))
    c.answer.ensures.reply c.answer.ensures.done

pub returns-then-is_late-clause-read : goal.returns-then-is_late-clause-read
returns-then-is_late-clause-read g c =
    let e = c.args.origin.now.envelope in
    on_ok c.code_reply.result _ _ (λ octets reads. reads (timeout_announced c.algorithm.result c.args.origin.now.moment e.session e.request c.in-Ok.request)) c.code_reply.ensures.read

pub returns-clause-read : goal.returns-clause-read
returns-clause-read g c =
    let e = c.args.origin.now.envelope in
    let r = c.in-Ok.request in
    let hosts = hosted_by c.args.lane_context.now.owner in
    let t = g.R.Rows.content c.args.rows.now in
    let p : Proof = record { response = response_view c.args.response; nonce = c.args.pending.now.nonce; digest = c.args.pending.now.digest } in
    let d = decision_of c.in_ok-decision.decision in
    let decided = named_decides t (Proven p) d c.in_ok-named.ensures.owner c.in_ok-named.ensures.asked c.in_ok-decision.ensures.decided in
    on_ok c.answer.result _ _
    (λ octets reads. reads (answer_announced_lem hosts c.algorithm.result t r (Proven p) d c.args.origin.now.moment e.session e.request c.in-Ok.ensures.read.has_code decided (proven_code hosts c.algorithm.result t r p d decided)))
    c.answer.ensures.read

pub returns-in_err-decision-clause-cost : goal.returns-in_err-decision-clause-cost
returns-in_err-decision-clause-cost g c =
    let p : Proof = record { response = response_view c.args.response; nonce = c.args.pending.now.nonce; digest = c.args.pending.now.digest } in
    by_proof (g.R.Rows.content c.args.rows.now) p c.in_ok-named.named.asked.request.now.operation _ _ c.decide.ensures.cost

pub returns-clause-cost : goal.returns-clause-cost
returns-clause-cost g c =
    let p : Proof = record { response = response_view c.args.response; nonce = c.args.pending.now.nonce; digest = c.args.pending.now.digest } in
    let t = g.R.Rows.content c.args.rows.now in
    then_nothing t proof_cost _ _ _ (by_proof t p c.in_ok-named.named.asked.request.now.operation _ _ c.decide.ensures.cost) c.answer.ensures.reads
