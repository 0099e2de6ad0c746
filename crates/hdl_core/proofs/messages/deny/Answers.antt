use Rattle.std.proofs.Common.{ap, ◌∙◌}
use Rattle.hdl_ops.specs.declared.decision.HashedRequest.{HashedRequest}
use Rattle.hdl_msg.specs.declared.replies.ReplyContent.TheVariants.{Empty}
use Rattle.hdl_laws.specs.Effects.{answer_octets}
use Rattle.hdl_laws.proofs.Announced.{denied_announced}
use Rattle.hdl_core.proofs.Answered.{on_ok}
use Rattle.hdl_core.proofs.messages.deny.Goals as goal

pub returns-clause-denied : goal.returns-clause-denied
returns-clause-denied c =
    on_ok c.code_reply.result _ _
    (λ octets is. is ∙ ap (λ (x : HashedRequest). answer_octets x.algorithm c.args.origin.now.moment c.args.origin.now.envelope x.request.now 5 Empty) c.in_ok-named.ensures.asked)
    c.code_reply.ensures.reply

pub returns-clause-read : goal.returns-clause-read
returns-clause-read c =
    let e = c.args.origin.now.envelope in
    let asked = c.in_ok-named.named.asked in
    on_ok c.code_reply.result _ _ (λ octets reads. reads (denied_announced asked.algorithm c.args.origin.now.moment e.session e.request asked.request.now)) c.code_reply.ensures.read
