use Rattle.std.proofs.Common.{◌∙◌, ◌++◌, ap}
use Rattle.std.proofs.lemmas.Result.{IfOk-weaker}
use Rattle.hdl_forms.specs.Lists.{list_top}
use Rattle.hdl_forms.proofs.lists.shown.Goals as goal

pub returns-clause-body : goal.returns-clause-body
returns-clause-body c =
    let found = c.in_ok-found.found in
    let form = c.in_ok-form.form in
    let above = c.in_ok-join.ensures ∙ ap (λ t. t ++ found) c.in_ok-list_top.ensures ∙ ap (λ f. list_top ++ f) c.in_ok-found.ensures in
    IfOk-weaker c.answer_of.result _ _ (λ answer e. (form, c.in_ok-form.ensures, e ∙ c.in_ok-page.ensures ∙ ap (λ p. p ++ form) above)) c.answer_of.ensures.body
