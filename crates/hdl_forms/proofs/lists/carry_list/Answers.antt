use Rattle.std.proofs.Common.{true, false}
use Rattle.std.proofs.lemmas.Result.{IfOk-weaker}
use Rattle.std.specs.declared.alloc.AllocError.{AllocError}
use Rattle.hdl_proxy.specs.declared.answer.Status.TheVariants.{Success}
use Rattle.hdl_rest.proofs.Sendings.{asked_so}
use Rattle.hdl_forms.specs.Taken.{page_status}
use Rattle.hdl_forms.proofs.Leaves.{given, refused}
use Rattle.hdl_forms.proofs.lists.carry_list.Goals as goal

pub returns-in-Ok-clause-asked : goal.returns-in-Ok-clause-asked
returns-in-Ok-clause-asked g c =
    asked_so c.in_ok-may_list.ensures.asked (λ xs tried. (true, given AllocError c.args.order.now.key c.args.order.now.name c.in_ok-may_list.field-0 _ xs c.in-Ok.is tried, c.list_of.ensures.list))

pub returns-in-Ok-clause-page : goal.returns-in-Ok-clause-page
returns-in-Ok-clause-page g c = IfOk-weaker c.list_of.result _ _ (λ page is. (Success, is)) c.list_of.ensures.page

pub returns-in-Err-clause-asked : goal.returns-in-Err-clause-asked
returns-in-Err-clause-asked g c =
    asked_so c.in_ok-may_list.ensures.asked (λ xs tried. (false, refused AllocError c.args.order.now.key c.args.order.now.name c.in_ok-may_list.field-0 _ xs c.in-Err.is tried, c.refused_list.ensures.form))

pub returns-in-Err-clause-page : goal.returns-in-Err-clause-page
returns-in-Err-clause-page g c = IfOk-weaker c.refused_list.result _ _ (λ page is. (page_status c.in-Err.answer.status, is)) c.refused_list.ensures.page
