use Rattle.std.proofs.Common.{ℕ, List, true, false, Some, None, ◌≡◌, sym, ap, ◌∙◌, subst}
use Rattle.std.specs.Prelude.{option_map}
use Rattle.hdl_value.specs.declared.wire.Wire.{Wire}
use Rattle.hdl_msg.specs.Message.{SpellsRequest}
use Rattle.hdl_msg.specs.Reply.{IsReplyFrame}
use Rattle.hdl_ops.specs.Requests.{response_of}
use Rattle.hdl_ops.specs.Views.{algorithms_by, hosted_by, response_view, site_by}
use Rattle.hdl_laws.specs.Tasks.{is_denied, told_site}
use Rattle.hdl_slots.specs.Lanes.{add_challenge}
use Rattle.hdl_core.specs.declared.messages.RequestResult.{RequestResult}
use Rattle.hdl_core.specs.Held.{state_at, with_state}
use Rattle.hdl_core.specs.Serving.{sent_of, lane_profile_by}
use Rattle.hdl_core.proofs.Answered.{on_ok, if_some, if_none, asks_site, no_request, responded, denied, informed, answered, challenges}
use Rattle.hdl_ops.specs.Cost.{anyone_cost}
use Rattle.hdl_reach.proofs.Costs.{unread}
use Rattle.hdl_core.proofs.Costs.{anyone_less}
use Rattle.hdl_core.proofs.messages.handle_message.Goals as goal

pub returns-in_default-clause-heard : goal.returns-in_default-clause-heard
returns-in_default-clause-heard g c =
    on_ok c.malformed_reply.result _ _
    (λ octets is. no_request (lane_profile_by c.args.lane_context.now) (hosted_by c.args.lane_context.now.owner) (algorithms_by c.args.lane_context.now.owner) (g.R.Rows.content c.args.rows.now) c.args.origin.now c.args.lanes.now c.args.origin.now.lane c.args.message.now octets
    (λ r spells. c.in_default.ensures.malformed r (subst (λ (w : Wire). SpellsRequest w c.args.message.now r) (sym c.wire.ensures) spells)) is)
    c.malformed_reply.ensures.octets

pub returns-in-Some-clause-heard : goal.returns-in-Some-clause-heard
returns-in-Some-clause-heard g c =
    let r = c.in-Ok.request in
    let is : Some (response_view c.in-Some.response) ≡ response_of r.operation = sym (ap (option_map response_view) c.in-Some.is) ∙ c.response_of.ensures ∙ ap response_of c.body.ensures in
    on_ok c.respond.result _ _
    (λ octets responds. responded (lane_profile_by c.args.lane_context.now) (hosted_by c.args.lane_context.now.owner) (algorithms_by c.args.lane_context.now.owner) (g.R.Rows.content c.args.rows.now) c.args.origin.now c.args.lanes.now c.args.origin.now.lane c.args.message.now r (response_view c.in-Some.response) octets c.respond.new.lanes (g.R.Rows.content c.respond.new.rows)
    (subst (λ (w : Wire). SpellsRequest w c.args.message.now r) c.wire.ensures c.in-Ok.ensures.read) is responds)
    c.respond.ensures.responded

pub returns-then-is_denied-clause-heard : goal.returns-then-is_denied-clause-heard
returns-then-is_denied-clause-heard g c =
    let r = c.in-Ok.request in
    let is : None ≡ response_of r.operation = sym (ap (option_map response_view) c.in_default-response_of.is) ∙ c.response_of.ensures ∙ ap response_of c.body.ensures in
    let never : true ≡ is_denied c.args.lane_context.now.takes_changes r.operation = sym c.if-is_denied.true ∙ c.is_denied.ensures ∙ ap (is_denied c.args.lane_context.now.takes_changes) c.body-2.ensures in
    on_ok c.deny.result _ _
    (λ octets same. denied (lane_profile_by c.args.lane_context.now) (hosted_by c.args.lane_context.now.owner) (algorithms_by c.args.lane_context.now.owner) (g.R.Rows.content c.args.rows.now) c.args.origin.now c.args.lanes.now c.args.origin.now.lane c.args.message.now octets r
    (subst (λ (w : Wire). SpellsRequest w c.args.message.now r) c.wire.ensures c.in-Ok.ensures.read) is never same)
    c.deny.ensures.denied

pub returns-in-Some-told_site-clause-heard : goal.returns-in-Some-told_site-clause-heard
returns-in-Some-told_site-clause-heard g c =
    let r = c.in-Ok.request in
    let is : None ≡ response_of r.operation = sym (ap (option_map response_view) c.in_default-response_of.is) ∙ c.response_of.ensures ∙ ap response_of c.body.ensures in
    let allowed : false ≡ is_denied c.args.lane_context.now.takes_changes r.operation = sym c.if-is_denied.false ∙ c.is_denied.ensures ∙ ap (is_denied c.args.lane_context.now.takes_changes) c.body-2.ensures in
    let told = if_some c.told_site.result _ _ c.in-Some-told_site.site c.in-Some-told_site.is c.told_site.ensures in
    on_ok c.inform.result _ _
    (λ octets same. informed (lane_profile_by c.args.lane_context.now) (hosted_by c.args.lane_context.now.owner) (algorithms_by c.args.lane_context.now.owner) (g.R.Rows.content c.args.rows.now) c.args.origin.now c.args.lanes.now c.args.origin.now.lane c.args.message.now octets c.in-Some-told_site.site.now r
    (subst (λ (w : Wire). SpellsRequest w c.args.message.now r) c.wire.ensures c.in-Ok.ensures.read) is (sym told ∙ ap (told_site (site_by c.args.lane_context.now.owner)) c.body-3.ensures) allowed same)
    c.inform.ensures.informed

pub returns-in-Some-told_site-clause-read : goal.returns-in-Some-told_site-clause-read
returns-in-Some-told_site-clause-read g c =
    let r = c.in-Ok.request in
    let told = if_some c.told_site.result _ _ c.in-Some-told_site.site c.in-Some-told_site.is c.told_site.ensures in
    on_ok c.inform.result _ _
    (λ octets reads. reads (asks_site (site_by c.args.lane_context.now.owner) r.operation r.header.op_code c.in-Some-told_site.site.now (sym (ap (told_site (site_by c.args.lane_context.now.owner)) c.body-3.ensures) ∙ told) c.in-Ok.ensures.read.has_code))
    c.inform.ensures.read

pub returns-in-Answered-clause-heard : goal.returns-in-Answered-clause-heard
returns-in-Answered-clause-heard g c =
    let r = c.in-Ok.request in
    let is : None ≡ response_of r.operation = sym (ap (option_map response_view) c.in_default-response_of.is) ∙ c.response_of.ensures ∙ ap response_of c.body.ensures in
    let told : None ≡ told_site (site_by c.args.lane_context.now.owner) r.operation = sym (if_none c.told_site.result _ _ c.in_default-told_site.is c.told_site.ensures) ∙ ap (told_site (site_by c.args.lane_context.now.owner)) c.body-3.ensures in
    let allowed : false ≡ is_denied c.args.lane_context.now.takes_changes r.operation = sym c.if-is_denied.false ∙ c.is_denied.ensures ∙ ap (is_denied c.args.lane_context.now.takes_changes) c.body-2.ensures in
    answered (lane_profile_by c.args.lane_context.now) (hosted_by c.args.lane_context.now.owner) (algorithms_by c.args.lane_context.now.owner) (g.R.Rows.content c.args.rows.now) c.args.origin.now c.args.lanes.now c.args.origin.now.lane c.args.message.now r c.in-Answered.octets (g.R.Rows.content c.decide_for_anyone.new.rows) c.in_ok-octets.field-0 c.next_number-next.result
    (subst (λ (w : Wire). SpellsRequest w c.args.message.now r) c.wire.ensures c.in-Ok.ensures.read) is told allowed c.in-Answered.is c.in_ok-octets.ensures.asked

pub returns-in_ok-copy-in-Challenged-clause-heard : goal.returns-in_ok-copy-in-Challenged-clause-heard
returns-in_ok-copy-in-Challenged-clause-heard g c =
    let r = c.in-Ok.request in
    let is : None ≡ response_of r.operation = sym (ap (option_map response_view) c.in_default-response_of.is) ∙ c.response_of.ensures ∙ ap response_of c.body.ensures in
    let told : None ≡ told_site (site_by c.args.lane_context.now.owner) r.operation = sym (if_none c.told_site.result _ _ c.in_default-told_site.is c.told_site.ensures) ∙ ap (told_site (site_by c.args.lane_context.now.owner)) c.body-3.ensures in
    let allowed : false ≡ is_denied c.args.lane_context.now.takes_changes r.operation = sym c.if-is_denied.false ∙ c.is_denied.ensures ∙ ap (is_denied c.args.lane_context.now.takes_changes) c.body-2.ensures in
    challenges (lane_profile_by c.args.lane_context.now) (hosted_by c.args.lane_context.now.owner) (algorithms_by c.args.lane_context.now.owner) (g.R.Rows.content c.args.rows.now) c.args.origin.now c.args.lanes.now c.args.origin.now.lane c.args.message.now r c.in-Challenged.octets c.in-Challenged.digest (g.R.Rows.content c.decide_for_anyone.new.rows) c.challenge.new.self c.in_ok-octets.field-0 c.next_number-next.result
    (subst (λ (w : Wire). SpellsRequest w c.args.message.now r) c.wire.ensures c.in-Ok.ensures.read) is told allowed c.in-Challenged.is c.next_number-next.ensures c.in_ok-octets.ensures.asked
    (c.challenge.ensures ∙ ap (λ (message : List ℕ). with_state c.args.lanes.now c.args.origin.now.lane (record {
      is_open = (state_at c.args.lanes.now c.args.origin.now.lane).is_open;
      partials = (state_at c.args.lanes.now c.args.origin.now.lane).partials;
      challenges = add_challenge (state_at c.args.lanes.now c.args.origin.now.lane).challenges (record { peer = c.args.origin.now.peer; moment = c.args.origin.now.moment; nonce = c.args.origin.now.nonce; digest = c.in-Challenged.digest; message = message });
    })) (c.new.ensures ∙ c.in_ok-copy-in-Challenged.ensures.items))

pub returns-in-Answered-clause-read : goal.returns-in-Answered-clause-read
returns-in-Answered-clause-read g c = subst (λ (x : RequestResult). IsReplyFrame (sent_of x)) c.in-Answered.is (c.in_ok-octets.ensures.read c.in-Ok.ensures.read.has_code)

pub returns-in_ok-copy-in-Challenged-clause-read : goal.returns-in_ok-copy-in-Challenged-clause-read
returns-in_ok-copy-in-Challenged-clause-read g c = subst (λ (x : RequestResult). IsReplyFrame (sent_of x)) c.in-Challenged.is (c.in_ok-octets.ensures.read c.in-Ok.ensures.read.has_code)

pub returns-in-Some-clause-stranger : goal.returns-in-Some-clause-stranger
returns-in-Some-clause-stranger g c = λ none. unread (g.R.Rows.content c.args.rows.now) anyone_cost _ _ (c.respond.ensures.unknown none)

pub returns-in_err-octets-clause-cost : goal.returns-in_err-octets-clause-cost
returns-in_err-octets-clause-cost g c = anyone_less (g.R.Rows.content c.args.rows.now) _ _ c.decide_for_anyone.ensures.cost

pub returns-in_err-octets-clause-stranger : goal.returns-in_err-octets-clause-stranger
returns-in_err-octets-clause-stranger g c = λ none. c.decide_for_anyone.ensures.cost

pub returns-in-Answered-clause-cost : goal.returns-in-Answered-clause-cost
returns-in-Answered-clause-cost g c = anyone_less (g.R.Rows.content c.args.rows.now) _ _ c.decide_for_anyone.ensures.cost

pub returns-in-Answered-clause-stranger : goal.returns-in-Answered-clause-stranger
returns-in-Answered-clause-stranger g c = λ none. c.decide_for_anyone.ensures.cost

pub returns-in_ok-copy-in-Challenged-clause-cost : goal.returns-in_ok-copy-in-Challenged-clause-cost
returns-in_ok-copy-in-Challenged-clause-cost g c = anyone_less (g.R.Rows.content c.args.rows.now) _ _ c.decide_for_anyone.ensures.cost

pub returns-in_ok-copy-in-Challenged-clause-stranger : goal.returns-in_ok-copy-in-Challenged-clause-stranger
returns-in_ok-copy-in-Challenged-clause-stranger g c = λ none. c.decide_for_anyone.ensures.cost

pub returns-in_err-copy-in-Challenged-clause-cost : goal.returns-in_err-copy-in-Challenged-clause-cost
returns-in_err-copy-in-Challenged-clause-cost g c = anyone_less (g.R.Rows.content c.args.rows.now) _ _ c.decide_for_anyone.ensures.cost

pub returns-in_err-copy-in-Challenged-clause-stranger : goal.returns-in_err-copy-in-Challenged-clause-stranger
returns-in_err-copy-in-Challenged-clause-stranger g c = λ none. c.decide_for_anyone.ensures.cost
