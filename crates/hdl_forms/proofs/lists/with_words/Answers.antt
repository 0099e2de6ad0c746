use Rattle.std.proofs.Common.{◌≡◌, ◌∙◌, ◌++◌, ◌∷◌, [], ap}
use Rattle.std.proofs.lemmas.Result.{IfOk-weaker}
use Rattle.hdl_forms.specs.Template.{filled, markup_of}
use Rattle.hdl_forms.specs.declared.markup.Template.TheVariants as templates
use Rattle.hdl_forms.proofs.Parts.{two_texts}
use Rattle.hdl_forms.proofs.lists.with_words.Goals as goal

pub returns : goal.returns
returns c =
    let r = c.args.request.now in
    let texts : c.in_ok-texts-2.texts.list.items ≡ r.name ∷ r.url ∷ [] =
    two_texts c.as_slice.result.now c.as_slice-2.result.now c.new.result.list.items c.in_ok-texts.texts.list.items c.in_ok-texts-2.texts.list.items c.new.ensures c.in_ok-texts.ensures c.in_ok-texts-2.ensures
    ∙ ap (λ x. x ∷ c.as_slice-2.result.now ∷ []) c.as_slice.ensures
    ∙ ap (λ x. r.name ∷ x ∷ []) c.as_slice-2.ensures in
    IfOk-weaker c.with.result _ _ (λ after e. e ∙ ap (λ t. c.args.page ++ filled (markup_of templates.Words) t) texts) c.with.ensures
