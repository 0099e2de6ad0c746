use Rattle.hdl_rest.proofs.Sendings.{asked_so}
use Rattle.hdl_forms.proofs.Unchanged.{paged}
use Rattle.hdl_forms.proofs.guarded.carry_on.Goals as goal

pub returns-clause-asked : goal.returns-clause-asked
returns-clause-asked g c = asked_so c.in_ok-answer.ensures.asked (λ xs carried. paged c.args.order.now c.args.body.now c.in_ok-answer.answer c.result_page.result xs c.result_page.ensures.page carried)
