use Rattle.std.proofs.Common.{◌≡◌, ◌∙◌, ◌++◌, ◌∷◌, [], ap, refl, string_bytes}
use Rattle.std.proofs.lemmas.Result.{IfOk-weaker}
use Rattle.hdl_forms.specs.History.{author_words, operation_words}
use Rattle.hdl_forms.specs.Template.{filled, markup_of}
use Rattle.hdl_forms.specs.declared.markup.Template.TheVariants as templates
use Rattle.hdl_forms.proofs.Parts.{four_texts}
use Rattle.hdl_forms.proofs.history.with_head.Goals as goal

pub returns : goal.returns
returns c =
    let entry = c.args.entry.now in
    let moment = string_bytes c.in_ok-moment.moment in
    let did = operation_words entry.operation in
    let who = author_words entry.author in
    let texts : c.in_ok-texts-4.texts.list.items ≡ moment ∷ moment ∷ did ∷ who ∷ [] =
    four_texts c.as_bytes.result.now c.as_bytes-2.result.now c.as_bytes-3.result.now c.deref.result.now moment moment did who
    c.new.result.list.items c.in_ok-texts.texts.list.items c.in_ok-texts-2.texts.list.items c.in_ok-texts-3.texts.list.items c.in_ok-texts-4.texts.list.items
    c.as_bytes.ensures.value c.as_bytes-2.ensures.value (c.as_bytes-3.ensures.value ∙ c.operation_words.ensures) (c.deref.ensures.value ∙ c.in_ok-author.ensures)
    c.new.ensures c.in_ok-texts.ensures c.in_ok-texts-2.ensures c.in_ok-texts-3.ensures c.in_ok-texts-4.ensures in
    IfOk-weaker c.with.result _ _
    (λ after e. (
      filled (markup_of templates.Entry) (moment ∷ moment ∷ did ∷ who ∷ []),
      (moment, c.in_ok-moment.ensures, refl),
      e ∙ ap (λ t. c.args.page ++ filled (markup_of templates.Entry) t) texts,
    ))
    c.with.ensures
