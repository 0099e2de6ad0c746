use Rattle.std.proofs.Common.{◌≡◌, ◌∙◌, ◌++◌, [], ap}
use Rattle.std.proofs.lemmas.Result.{IfOk-weaker}
use Rattle.hdl_forms.specs.Fields.{field_template}
use Rattle.hdl_forms.specs.Open.{open_texts}
use Rattle.hdl_forms.specs.Template.{filled, markup_of}
use Rattle.hdl_forms.specs.declared.markup.Template.TheVariants as templates
use Rattle.hdl_forms.proofs.Rows.{put_in}
use Rattle.hdl_forms.proofs.open.open_form.Goals as goal

pub returns : goal.returns
returns c =
    let typed = c.args.typed.now in
    let fault = c.args.fault.now in
    let field = filled (markup_of (field_template fault)) (open_texts typed fault) in
    let first : c.in_ok-page.page ≡ filled (markup_of templates.Open) [] =
    put_in (markup_of templates.Open) c.in_ok-page.page c.new.result c.new-2.result.list.items [] c.in_ok-page.ensures c.new.ensures c.new-2.ensures in
    let middle : c.in_ok-page-2.page ≡ c.in_ok-page.page ++ field =
    c.in_ok-page-2.ensures
    ∙ ap (λ t. c.in_ok-page.page ++ filled (markup_of (field_template c.as_bytes-2.result.now)) (open_texts t c.as_bytes-2.result.now)) c.as_bytes.ensures.value
    ∙ ap (λ f. c.in_ok-page.page ++ filled (markup_of (field_template f)) (open_texts typed f)) c.as_bytes-2.ensures.value in
    IfOk-weaker c.with-2.result _ _
    (λ page e. e ∙ ap (λ t. c.in_ok-page-2.page ++ filled (markup_of templates.OpenButton) t) c.new-3.ensures
    ∙ ap (λ p. p ++ filled (markup_of templates.OpenButton) []) (middle ∙ ap (λ p. p ++ field) first))
    c.with-2.ensures
