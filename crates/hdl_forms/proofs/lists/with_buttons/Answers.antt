use Rattle.std.proofs.Common.{◌≡◌, ◌∙◌, ◌++◌, ◌∷◌, [], ap, rules}
use Rattle.std.specs.Prelude.{decimal}
use Rattle.std.proofs.lemmas.Result.{IfOk-weaker}
use Rattle.hdl_forms.specs.Template.{filled, markup_of}
use Rattle.hdl_forms.specs.declared.markup.Template.TheVariants as templates
use Rattle.hdl_forms.proofs.lists.with_buttons.Goals as goal

pub returns : goal.returns
returns c =
    let digits : c.as_bytes.result.now ≡ decimal c.in-Some.next = search rules in
    let texts = c.in_ok-texts.ensures ∙ ap (λ l. l ++ c.as_bytes.result.now ∷ []) c.new-2.ensures ∙ ap (λ d. d ∷ []) digits in
    rw c.in-Some.is (IfOk-weaker c.with-2.result _ _ (λ after e. e ∙ ap (λ t. c.args.page ++ filled (markup_of templates.FindOrNext) t) texts) c.with-2.ensures)
