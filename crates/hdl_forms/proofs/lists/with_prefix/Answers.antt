use Rattle.std.proofs.Common.{◌≡◌, ◌∙◌, ◌++◌, ◌∷◌, [], ap}
use Rattle.std.proofs.lemmas.Result.{IfOk-weaker}
use Rattle.hdl_forms.specs.Fields.{prefix_template}
use Rattle.hdl_forms.specs.Template.{filled, markup_of}
use Rattle.hdl_forms.specs.declared.markup.Template.TheVariants as templates
use Rattle.hdl_forms.proofs.Parts.{two_texts}
use Rattle.hdl_forms.proofs.Rows.{put_in}
use Rattle.hdl_forms.proofs.lists.with_prefix.Goals as goal

pub returns : goal.returns
returns c =
    let r = c.args.request.now in
    let top = c.at-top.result.now in
    let at = c.at-at_prefix.result.now in
    let tops : c.in_ok-texts-2.texts.list.items ≡ r.token ∷ top ∷ [] =
    two_texts c.as_slice.result.now top c.new.result.list.items c.in_ok-texts.texts.list.items c.in_ok-texts-2.texts.list.items c.new.ensures c.in_ok-texts.ensures c.in_ok-texts-2.ensures
    ∙ ap (λ x. x ∷ top ∷ []) c.as_slice.ensures in
    let first : c.in_ok-page.page ≡ filled (markup_of templates.ListForm) (r.token ∷ top ∷ []) =
    put_in (markup_of templates.ListForm) c.in_ok-page.page c.new-2.result c.in_ok-texts-2.texts.list.items (r.token ∷ top ∷ []) c.in_ok-page.ensures c.new-2.ensures tops in
    let texts : c.in_ok-texts-4.texts.list.items ≡ r.prefix ∷ at ∷ [] =
    two_texts c.as_slice-2.result.now at c.new-3.result.list.items c.in_ok-texts-3.texts.list.items c.in_ok-texts-4.texts.list.items c.new-3.ensures c.in_ok-texts-3.ensures c.in_ok-texts-4.ensures
    ∙ ap (λ x. x ∷ at ∷ []) c.as_slice-2.ensures in
    IfOk-weaker c.with-2.result _ _
    (λ page e. (
      top,
      at,
      e ∙ ap (λ t. c.in_ok-page.page ++ filled (markup_of t) c.in_ok-texts-4.texts.list.items) c.prefix_template.ensures
          ∙ ap (λ t. c.in_ok-page.page ++ filled (markup_of (prefix_template at)) t) texts
          ∙ ap (λ p. p ++ filled (markup_of (prefix_template at)) (r.prefix ∷ at ∷ [])) first,
    ))
    c.with-2.ensures
