use Rattle.std.proofs.Common.{◌∙◌, ◌++◌, ap}
use Rattle.std.proofs.lemmas.Result.{IfOk-weaker}
use Rattle.hdl_forms.proofs.lists.form_page.Goals as goal

pub returns-clause-form : goal.returns-clause-form
returns-clause-form c =
    IfOk-weaker c.answer_of.result _ _
    (λ answer e. (c.in_ok-form.form, c.in_ok-form.ensures, e ∙ c.in_ok-page.ensures ∙ ap (λ t. t ++ c.in_ok-form.form) c.in_ok-list_top.ensures))
    c.answer_of.ensures.body
