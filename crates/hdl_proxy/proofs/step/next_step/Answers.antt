use Rattle.std.proofs.Common.{Option, None, subst}
use Rattle.std.proofs.lemmas.Result.{IfOk-weaker}
use Rattle.hdl_proxy.specs.Alias.{IsHop}
use Rattle.hdl_proxy.specs.Found.{IsFoundOf}
use Rattle.hdl_proxy.specs.Step.{IsStep}
use Rattle.hdl_proxy.specs.declared.alias.Hop.{Hop}
use Rattle.hdl_proxy.specs.declared.proxy.Next.{Next}
use Rattle.hdl_proxy.proofs.step.next_step.Goals as goal

pub returns-clause-steps : goal.returns-clause-steps
returns-clause-steps c =
    let question = c.args.question in
    let found = c.in_ok-found.found in
    let said : IsFoundOf question.name c.args.answered found = subst (λ name. IsFoundOf name c.args.answered found) c.sent.ensures.octets c.in_ok-found.ensures in
    let hop : IsHop question.aliases found None = subst (λ (o : Option Hop). IsHop question.aliases found o) c.in-None.is c.in_ok-hop.ensures in
    IfOk-weaker c.settle.result _ (IsStep question c.args.answered) (λ (next : Next) h. (found, None, (said, hop, h))) c.settle.ensures.settles
