use Rattle.std.proofs.Common.{◌∙◌, ap}
use Rattle.std.proofs.lemmas.Result.{IfOk-weaker}
use Rattle.hdl_forms.specs.Fields.{with_keys}
use Rattle.hdl_forms.specs.Lists.{with_words}
use Rattle.hdl_forms.proofs.lists.form_of.Goals as goal

pub returns : goal.returns
returns c =
    let first = c.in_ok-page.ensures in
    IfOk-weaker c.with_keys.result _ _
    (λ page keys. (
      first.0,
      first.1,
      keys.0,
      keys.1,
      keys.2 ∙ ap (λ p. with_keys p keys.0 keys.1) (c.in_ok-page-2.ensures ∙ ap (λ p. with_words p c.args.request.now) first.2),
    ))
    c.with_keys.ensures
