use Rattle.std.proofs.Common.{◌≡◌, ◌∙◌, ◌++◌, ap}
use Rattle.std.proofs.lemmas.Result.{IfOk-weaker}
use Rattle.hdl_forms.specs.Confirm.{fresh_address}
use Rattle.hdl_forms.specs.Fields.{with_text}
use Rattle.hdl_forms.specs.Warnings.{warnings}
use Rattle.hdl_forms.specs.declared.markup.Template.TheVariants as templates
use Rattle.hdl_forms.proofs.Parts.{has_middle, has_next, ways_look}
use Rattle.hdl_forms.proofs.confirm.confirm_page.Goals as goal

pub returns-clause-warned : goal.returns-clause-warned
returns-clause-warned c =
    let name = c.args.form.now.name.items in
    let draft = c.args.form.now.draft in
    let part : c.in_ok-warnings.field-0 ≡ warnings name draft = c.in_ok-warnings.ensures ∙ ap (λ n. warnings n draft) c.deref.ensures.value in
    let two = c.in_ok-page-2.ensures ∙ ap (λ p. c.in_ok-page.page ++ p) part in
    IfOk-weaker c.answer_of.result _ _
    (λ answer e. has_middle c.in_ok-page.page (warnings name draft) c.in_ok-key_form.field-0 c.in_ok-ways_part.field-0 answer.body.items
    (e ∙ c.in_ok-page-4.ensures ∙ ap (λ p. p ++ c.in_ok-ways_part.field-0) (c.in_ok-page-3.ensures ∙ ap (λ p. p ++ c.in_ok-key_form.field-0) two)))
    c.answer_of.ensures.body

pub returns-clause-unclear : goal.returns-clause-unclear
returns-clause-unclear c unclear =
    let name = c.args.form.now.name.items in
    let ways = c.in_ok-ways_part.ensures in
    IfOk-weaker c.answer_of.result _ _
    (λ answer e. has_next c.in_ok-page-3.page (with_text templates.Look (fresh_address name)) (with_text templates.Back ways.0) answer.body.items c.in_ok-ways_part.field-0
    (e ∙ c.in_ok-page-4.ensures) (ways.1 ∙ ways_look c.args.status name ways.0 unclear))
    c.answer_of.ensures.body
