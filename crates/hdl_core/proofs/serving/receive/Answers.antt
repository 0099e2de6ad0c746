use Rattle.std.proofs.Common.{ℕ, List, drop, ap, sym, ◌∙◌, refl, subst}
use Rattle.hdl_frame.specs.Frames.{IsFrame}
use Rattle.hdl_frame.specs.Splitting.{IsFrameOf}
use Rattle.hdl_msg.specs.Reply.{IsReplyFrame}
use Rattle.hdl_msg.proofs.ReplyReadings.{short_reply_read}
use Rattle.hdl_events.specs.declared.Outcome.TheVariants.{Busy}
use Rattle.hdl_core.specs.declared.origin.Origin.{Origin}
use Rattle.std.specs.Prelude.{IfOk}
use Rattle.hdl_ops.specs.Views.{algorithms_by, hosted_by}
use Rattle.hdl_core.specs.Serving.{received_of, scene, AssemblesAt, lane_profile_by}
use Rattle.hdl_core.proofs.Received.{no_frame, piece, heard, refused, read_of}
use Rattle.hdl_core.proofs.serving.receive.Goals as goal

pub returns-in_default-clause-received : goal.returns-in_default-clause-received
returns-in_default-clause-received g c =
    let x = received_of c.args.received in
    no_frame (lane_profile_by c.args.lane_context.now) (hosted_by c.args.lane_context.now.owner) (algorithms_by c.args.lane_context.now.owner) (g.R.Rows.content c.args.rows.now) c.args.lanes.now c.args.received.lane x
    (λ is. c.in_default.ensures.refused (subst IsFrame (sym c.as_slice.ensures) is))

pub returns-then-is_truncated-clause-received : goal.returns-then-is_truncated-clause-received
returns-then-is_truncated-clause-received g c =
    let x = received_of c.args.received in
    let found = subst (λ (b : List ℕ). IsFrameOf b c.in-Ok.frame) c.as_slice.ensures c.in-Ok.ensures.ok in
    let assembled =
    subst
    (λ (b : List ℕ). IfOk c.assemble-reply.result (λ reply. AssemblesAt (scene c.args.lane_context.now (g.R.Rows.content c.args.rows.now) c.args.lanes.now) c.args.received.lane (record { peer = c.args.received.peer; moment = c.args.received.moment; nonce = c.args.received.nonce; bytes = b }) reply c.assemble-reply.new.lanes (g.R.Rows.content c.assemble-reply.new.rows)))
    found.bytes c.assemble-reply.ensures.assembled in
    piece (lane_profile_by c.args.lane_context.now) (hosted_by c.args.lane_context.now.owner) (algorithms_by c.args.lane_context.now.owner) (g.R.Rows.content c.args.rows.now) c.args.lanes.now c.args.received.lane x c.in-Ok.frame c.assemble-reply.result c.outcome_of.result c.assemble-reply.new.lanes (g.R.Rows.content c.assemble-reply.new.rows)
    found (sym c.is_truncated.ensures ∙ c.if-is_truncated.true) c.outcome_of.ensures assembled c.assemble-reply.ensures.undone c.assemble-reply.ensures.unchanged

pub returns-in-Ok-handle_message-clause-received : goal.returns-in-Ok-handle_message-clause-received
returns-in-Ok-handle_message-clause-received g c =
    let x = received_of c.args.received in
    let found = subst (λ (b : List ℕ). IsFrameOf b c.in-Ok.frame) c.as_slice.ensures c.in-Ok.ensures.ok in
    let m : Origin = record { lane = c.args.received.lane; peer = c.args.received.peer; moment = c.args.received.moment; nonce = c.args.received.nonce; envelope = c.in-Ok.frame.envelope } in
    heard (lane_profile_by c.args.lane_context.now) (hosted_by c.args.lane_context.now.owner) (algorithms_by c.args.lane_context.now.owner) (g.R.Rows.content c.args.rows.now) c.args.lanes.now c.args.received.lane x c.in-Ok.frame m c.payload-message.result.now c.in-Ok-handle_message.reply c.handle_message.new.lanes (g.R.Rows.content c.handle_message.new.rows)
    found (sym c.is_truncated.ensures ∙ c.if-is_truncated.false) (c.payload-message.ensures.payload ∙ ap (drop 20) found.bytes) refl c.in-Ok-handle_message.ensures.heard

pub returns-clause-received : goal.returns-clause-received
returns-clause-received g c =
    let x = received_of c.args.received in
    refused (lane_profile_by c.args.lane_context.now) (hosted_by c.args.lane_context.now.owner) (algorithms_by c.args.lane_context.now.owner) (g.R.Rows.content c.args.rows.now) c.args.lanes.now c.args.received.lane x c.in-Ok.frame (Busy c.busy.result) c.handle_message.new.lanes (g.R.Rows.content c.handle_message.new.rows)
    (subst (λ (b : List ℕ). IsFrameOf b c.in-Ok.frame) c.as_slice.ensures c.in-Ok.ensures.ok) (ap Busy c.busy.ensures) c.in-Err.ensures.unchanged c.in-Err.ensures.undone

pub returns-then-is_truncated-clause-read : goal.returns-then-is_truncated-clause-read
returns-then-is_truncated-clause-read g c = read_of c.in-Ok.frame.envelope c.assemble-reply.result c.outcome_of.result c.outcome_of.ensures c.assemble-reply.ensures.read

pub returns-clause-read : goal.returns-clause-read
returns-clause-read g c = subst IsReplyFrame (sym c.busy.ensures) (short_reply_read c.in-Ok.frame.envelope).0
