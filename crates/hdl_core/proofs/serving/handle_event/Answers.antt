use Rattle.std.proofs.Common.{ap, sym, ◌∙◌, subst}
use Rattle.hdl_msg.specs.Reply.{short_reply, IsReplyFrame}
use Rattle.hdl_msg.proofs.ReplyReadings.{short_reply_read}
use Rattle.hdl_laws.specs.Tasks.{Received}
use Rattle.hdl_core.specs.Serving.{lane_profile_by}
use Rattle.hdl_core.proofs.Received.{opened, closed, unbroken, broken, unheard, received}
use Rattle.hdl_ops.specs.Views.{algorithms_by, hosted_by}
use Rattle.hdl_laws.specs.Cost.{IsStranger}
use Rattle.hdl_core.specs.Held.{state_at}
use Rattle.hdl_core.proofs.serving.handle_event.Goals as goal

pub returns-then-not-is_open-clause-served : goal.returns-then-not-is_open-clause-served
returns-then-not-is_open-clause-served g c =
    unbroken (lane_profile_by c.args.lane_context.now) (hosted_by c.args.lane_context.now.owner) (algorithms_by c.args.lane_context.now.owner) (g.R.Rows.content c.args.rows.now) c.args.lanes.now c.args.event.lane c.args.event.what c.in-Bad.session c.in-Bad.request c.in-Bad.is (sym c.is_open.ensures ∙ c.if-not-is_open.true)

pub returns-then-not-is_open-2-clause-served : goal.returns-then-not-is_open-2-clause-served
returns-then-not-is_open-2-clause-served g c =
    let x : Received = record { peer = c.in-Frame.peer; moment = c.in-Frame.moment; nonce = c.in-Frame.nonce; bytes = c.in-Frame.bytes } in
    unheard (lane_profile_by c.args.lane_context.now) (hosted_by c.args.lane_context.now.owner) (algorithms_by c.args.lane_context.now.owner) (g.R.Rows.content c.args.rows.now) c.args.lanes.now c.args.event.lane c.args.event.what x c.in-Frame.is (sym c.is_open-in-Frame.ensures ∙ c.if-not-is_open-2.true)

pub returns-in-Open-clause-served : goal.returns-in-Open-clause-served
returns-in-Open-clause-served g c =
    opened (lane_profile_by c.args.lane_context.now) (hosted_by c.args.lane_context.now.owner) (algorithms_by c.args.lane_context.now.owner) (g.R.Rows.content c.args.rows.now) c.args.lanes.now c.args.event.lane c.args.event.what c.reset.new.self c.in-Open.is c.reset.ensures

pub returns-in-Close-clause-served : goal.returns-in-Close-clause-served
returns-in-Close-clause-served g c =
    closed (lane_profile_by c.args.lane_context.now) (hosted_by c.args.lane_context.now.owner) (algorithms_by c.args.lane_context.now.owner) (g.R.Rows.content c.args.rows.now) c.args.lanes.now c.args.event.lane c.args.event.what c.reset-in-Close.new.self c.in-Close.is c.reset-in-Close.ensures

pub returns-else-not-is_open-clause-served : goal.returns-else-not-is_open-clause-served
returns-else-not-is_open-clause-served g c =
    broken (lane_profile_by c.args.lane_context.now) (hosted_by c.args.lane_context.now.owner) (algorithms_by c.args.lane_context.now.owner) (g.R.Rows.content c.args.rows.now) c.args.lanes.now c.args.event.lane c.args.event.what c.in-Bad.session c.in-Bad.request c.refuse.result c.in-Bad.is (sym c.is_open.ensures ∙ c.if-not-is_open.false)
    (c.refuse.ensures ∙ ap (short_reply 4) c.of_message.ensures.envelope)

pub returns-else-not-is_open-2-clause-served : goal.returns-else-not-is_open-2-clause-served
returns-else-not-is_open-2-clause-served g c =
    let x : Received = record { peer = c.in-Frame.peer; moment = c.in-Frame.moment; nonce = c.in-Frame.nonce; bytes = c.in-Frame.bytes } in
    received (lane_profile_by c.args.lane_context.now) (hosted_by c.args.lane_context.now.owner) (algorithms_by c.args.lane_context.now.owner) (g.R.Rows.content c.args.rows.now) c.args.lanes.now c.args.event.lane c.args.event.what x c.receive.result c.receive.new.lanes (g.R.Rows.content c.receive.new.rows) c.in-Frame.is (sym c.is_open-in-Frame.ensures ∙ c.if-not-is_open-2.false) c.receive.ensures.received

pub returns-else-not-is_open-clause-read : goal.returns-else-not-is_open-clause-read
returns-else-not-is_open-clause-read g c = subst IsReplyFrame (sym c.refuse.ensures) (short_reply_read c.of_message.result).1

pub returns-else-not-is_open-2-clause-stranger : goal.returns-else-not-is_open-2-clause-stranger
returns-else-not-is_open-2-clause-stranger g c = λ stranger. c.receive.ensures.stranger (subst (IsStranger (state_at c.args.lanes.now c.args.event.lane)) c.in-Frame.is stranger)
