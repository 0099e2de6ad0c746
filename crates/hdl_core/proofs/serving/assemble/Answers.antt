use Rattle.std.proofs.Common.{ℕ, List, refl, sym, ap, ◌∙◌, subst}
use Rattle.hdl_pool.specs.Taking.{kept, ignored, displaced, fate_of}
use Rattle.hdl_laws.specs.Cost.{IsUnchallenged}
use Rattle.hdl_core.specs.Held.{Held, state_at}
use Rattle.hdl_ops.specs.Views.{algorithms_by, hosted_by}
use Rattle.hdl_core.specs.Serving.{message_as, scene, HandlesMessageAt, lane_profile_by}
use Rattle.hdl_core.proofs.Assembled.{waits, unchanged, whole}
use Rattle.hdl_core.proofs.Answered.{on_any_err}
use Rattle.hdl_core.proofs.serving.assemble.Goals as goal

pub returns-in_err-reply-in-Whole-clause-unchanged : goal.returns-in_err-reply-in-Whole-clause-unchanged
returns-in_err-reply-in-Whole-clause-unchanged g c =
    on_any_err c.from_residual.result _
    (c.in_err-reply-in-Whole.ensures.unchanged ∙ unchanged (lane_profile_by c.args.lane_context.now) (hosted_by c.args.lane_context.now.owner) (algorithms_by c.args.lane_context.now.owner) (g.R.Rows.content c.args.rows.now) c.args.lanes.now c.args.origin.now.lane c.args.origin.now c.args.frame.now.bytes.now c.requires.envelope c.in-Whole.message.items c.take_piece.new.self (sym (ap fate_of c.in-Whole.is) ∙ c.in-Ok.ensures.fate) c.in-Ok.ensures.lanes)

pub returns-in_ok-reply-in-Whole-clause-assembled : goal.returns-in_ok-reply-in-Whole-clause-assembled
returns-in_ok-reply-in-Whole-clause-assembled g c =
    let same = unchanged (lane_profile_by c.args.lane_context.now) (hosted_by c.args.lane_context.now.owner) (algorithms_by c.args.lane_context.now.owner) (g.R.Rows.content c.args.rows.now) c.args.lanes.now c.args.origin.now.lane c.args.origin.now c.args.frame.now.bytes.now c.requires.envelope c.in-Whole.message.items c.take_piece.new.self (sym (ap fate_of c.in-Whole.is) ∙ c.in-Ok.ensures.fate) c.in-Ok.ensures.lanes in
    whole (lane_profile_by c.args.lane_context.now) (hosted_by c.args.lane_context.now.owner) (algorithms_by c.args.lane_context.now.owner) (g.R.Rows.content c.args.rows.now) c.args.lanes.now c.args.origin.now.lane c.args.origin.now c.args.frame.now.bytes.now c.requires.envelope c.in-Whole.message.items c.in_ok-reply-in-Whole.reply c.handle_message.new.lanes c.free.new.self (g.R.Rows.content c.handle_message.new.rows) c.requires.there (sym (ap fate_of c.in-Whole.is) ∙ c.in-Ok.ensures.fate)
    (subst (λ (ls : List Held). HandlesMessageAt (scene c.args.lane_context.now (g.R.Rows.content c.args.rows.now) ls) c.args.origin.now.lane (message_as c.args.origin.now c.in-Whole.message.items) c.in_ok-reply-in-Whole.reply c.handle_message.new.lanes (g.R.Rows.content c.handle_message.new.rows)) same
    (subst (λ (b : List ℕ). HandlesMessageAt (scene c.args.lane_context.now (g.R.Rows.content c.args.rows.now) c.take_piece.new.self) c.args.origin.now.lane (message_as c.args.origin.now b) c.in_ok-reply-in-Whole.reply c.handle_message.new.lanes (g.R.Rows.content c.handle_message.new.rows)) c.deref.ensures.value c.in_ok-reply-in-Whole.ensures.heard))
    c.free.ensures

pub returns-in-Kept-clause-assembled : goal.returns-in-Kept-clause-assembled
returns-in-Kept-clause-assembled g c =
    waits (lane_profile_by c.args.lane_context.now) (hosted_by c.args.lane_context.now.owner) (algorithms_by c.args.lane_context.now.owner) (g.R.Rows.content c.args.rows.now) c.args.lanes.now c.args.origin.now.lane c.args.origin.now c.args.frame.now.bytes.now c.requires.envelope kept c.take_piece.new.self refl (sym (ap fate_of c.in-Kept.is) ∙ c.in-Ok.ensures.fate) c.in-Ok.ensures.lanes

pub returns-in-Ignored-clause-assembled : goal.returns-in-Ignored-clause-assembled
returns-in-Ignored-clause-assembled g c =
    waits (lane_profile_by c.args.lane_context.now) (hosted_by c.args.lane_context.now.owner) (algorithms_by c.args.lane_context.now.owner) (g.R.Rows.content c.args.rows.now) c.args.lanes.now c.args.origin.now.lane c.args.origin.now c.args.frame.now.bytes.now c.requires.envelope ignored c.take_piece.new.self refl (sym (ap fate_of c.in-Ignored.is) ∙ c.in-Ok.ensures.fate) c.in-Ok.ensures.lanes

pub returns-in-Displaced-clause-assembled : goal.returns-in-Displaced-clause-assembled
returns-in-Displaced-clause-assembled g c =
    waits (lane_profile_by c.args.lane_context.now) (hosted_by c.args.lane_context.now.owner) (algorithms_by c.args.lane_context.now.owner) (g.R.Rows.content c.args.rows.now) c.args.lanes.now c.args.origin.now.lane c.args.origin.now c.args.frame.now.bytes.now c.requires.envelope displaced c.take_piece.new.self refl (sym (ap fate_of c.in-Displaced.is) ∙ c.in-Ok.ensures.fate) c.in-Ok.ensures.lanes

pub returns-in_err-reply-in-Whole-clause-stranger : goal.returns-in_err-reply-in-Whole-clause-stranger
returns-in_err-reply-in-Whole-clause-stranger g c = λ none.
    let same = unchanged (lane_profile_by c.args.lane_context.now) (hosted_by c.args.lane_context.now.owner) (algorithms_by c.args.lane_context.now.owner) (g.R.Rows.content c.args.rows.now) c.args.lanes.now c.args.origin.now.lane c.args.origin.now c.args.frame.now.bytes.now c.requires.envelope c.in-Whole.message.items c.take_piece.new.self (sym (ap fate_of c.in-Whole.is) ∙ c.in-Ok.ensures.fate) c.in-Ok.ensures.lanes in
    c.handle_message.ensures.stranger (subst (λ (ls : List Held). IsUnchallenged (state_at ls c.args.origin.now.lane) c.args.origin.now.peer) (sym same) none)

pub returns-in_ok-reply-in-Whole-clause-stranger : goal.returns-in_ok-reply-in-Whole-clause-stranger
returns-in_ok-reply-in-Whole-clause-stranger g c = λ none.
    let same = unchanged (lane_profile_by c.args.lane_context.now) (hosted_by c.args.lane_context.now.owner) (algorithms_by c.args.lane_context.now.owner) (g.R.Rows.content c.args.rows.now) c.args.lanes.now c.args.origin.now.lane c.args.origin.now c.args.frame.now.bytes.now c.requires.envelope c.in-Whole.message.items c.take_piece.new.self (sym (ap fate_of c.in-Whole.is) ∙ c.in-Ok.ensures.fate) c.in-Ok.ensures.lanes in
    c.handle_message.ensures.stranger (subst (λ (ls : List Held). IsUnchallenged (state_at ls c.args.origin.now.lane) c.args.origin.now.peer) (sym same) none)
