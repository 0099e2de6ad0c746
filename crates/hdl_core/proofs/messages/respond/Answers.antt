use Rattle.std.proofs.Common.{sym, ap, ◌∙◌}
use Rattle.std.specs.Prelude.{option_copied}
use Rattle.hdl_auth.specs.declared.algorithm.Algorithm.TheVariants.{Sha1}
use Rattle.hdl_ops.proofs.Announced.{protocol_error_announced}
use Rattle.hdl_ops.specs.Views.{algorithms_by, hosted_by, response_view}
use Rattle.hdl_core.specs.Serving.{lane_profile_by}
use Rattle.hdl_core.proofs.Answered.{on_ok, unknown, known}
use Rattle.hdl_core.proofs.Costs.{none_found}
use Rattle.hdl_core.proofs.messages.respond.Goals as goal

pub returns-in_default-clause-responded : goal.returns-in_default-clause-responded
returns-in_default-clause-responded g c =
    on_ok c.code_reply.result _ _
    (λ octets is. unknown (lane_profile_by c.args.lane_context.now) (hosted_by c.args.lane_context.now.owner) (algorithms_by c.args.lane_context.now.owner) (g.R.Rows.content c.args.rows.now) c.args.origin.now c.args.lanes.now c.args.origin.now.lane c.args.request.now (response_view c.args.response) octets
    (sym (ap option_copied c.in_default.is) ∙ c.find.ensures) is)
    c.code_reply.ensures.reply

pub returns-clause-responded : goal.returns-clause-responded
returns-clause-responded g c =
    known (lane_profile_by c.args.lane_context.now) (hosted_by c.args.lane_context.now.owner) (algorithms_by c.args.lane_context.now.owner) (g.R.Rows.content c.args.rows.now) c.args.origin.now c.args.lanes.now c.args.origin.now.lane c.args.request.now (response_view c.args.response) c.in-Some.pending.now c.in_ok-octets.octets c.spend.new.self (g.R.Rows.content c.redeem.new.rows)
    (sym (ap option_copied c.in-Some.is) ∙ c.find.ensures) c.in_ok-octets.ensures.redeemed c.spend.ensures

pub returns-in_default-clause-read : goal.returns-in_default-clause-read
returns-in_default-clause-read g c =
    let e = c.args.origin.now.envelope in
    on_ok c.code_reply.result _ _ (λ octets reads. reads (protocol_error_announced Sha1 c.args.origin.now.moment e.session e.request c.args.request.now)) c.code_reply.ensures.read

pub returns-in_err-octets-clause-unknown : goal.returns-in_err-octets-clause-unknown
returns-in_err-octets-clause-unknown g c = λ none. absurd (none_found c.args.lanes.now c.args.origin.now.lane c.args.origin.now.peer c.args.origin.now.envelope.session c.in-Some.pending.now (sym (ap option_copied c.in-Some.is) ∙ c.find.ensures) none)

pub returns-clause-unknown : goal.returns-clause-unknown
returns-clause-unknown g c = λ none. absurd (none_found c.args.lanes.now c.args.origin.now.lane c.args.origin.now.peer c.args.origin.now.envelope.session c.in-Some.pending.now (sym (ap option_copied c.in-Some.is) ∙ c.find.ensures) none)
