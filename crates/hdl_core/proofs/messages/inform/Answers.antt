use Rattle.std.proofs.Common.{sym, subst}
use Rattle.hdl_msg.specs.Reply.{IsReplyFrame}
use Rattle.hdl_core.specs.Serving.{IsInformed}
use Rattle.hdl_core.proofs.Answered.{site_answer, site_answer_announced}
use Rattle.hdl_core.proofs.messages.inform.Goals as goal

pub returns-clause-informed : goal.returns-clause-informed
returns-clause-informed c =
    subst (IsInformed c.args.origin.now c.args.request.now c.args.site.now) (sym c.new.ensures)
    (site_answer c.args.origin.now c.args.request.now c.args.site.now c.in_ok-decision.decision c.in_ok-decision.ensures.decided c.in_ok-octets.octets.items c.in_ok-octets.ensures.octets)

pub returns-clause-read : goal.returns-clause-read
returns-clause-read c = λ has.
    subst IsReplyFrame (sym c.new.ensures) (c.in_ok-octets.ensures.read (site_answer_announced c.args.origin.now c.args.request.now c.args.site.now c.in_ok-decision.decision c.in_ok-decision.ensures.decided has))
