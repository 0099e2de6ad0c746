use Rattle.std.proofs.Common.{◌≡◌, ◌∙◌, ◌++◌, ap}
use Rattle.std.proofs.lemmas.Result.{IfOk-weaker}
use Rattle.hdl_forms.specs.Fields.{field_template, field_texts}
use Rattle.hdl_forms.specs.Template.{filled, markup_of}
use Rattle.hdl_forms.proofs.pages.with_field.Goals as goal

pub returns : goal.returns
returns c =
    let fault = c.args.fault.now in
    let texts : c.in_ok-texts.texts.list.items ≡ field_texts c.args.field fault = c.in_ok-texts.ensures in
    IfOk-weaker c.with.result _ _
    (λ after e. e ∙ ap (λ t. c.args.page ++ filled (markup_of t) c.in_ok-texts.texts.list.items) c.field_template.ensures ∙ ap (λ t. c.args.page ++ filled (markup_of (field_template fault)) t) texts)
    c.with.ensures
