use Rattle.std.proofs.Common.{◌≡◌, ◌∙◌, ◌++◌, [], ap, subst}
use Rattle.std.proofs.lemmas.Result.{IfOk-weaker}
use Rattle.hdl_forms.specs.History.{IsEntries}
use Rattle.hdl_forms.specs.Template.{filled, markup_of}
use Rattle.hdl_forms.specs.declared.markup.Template.TheVariants as templates
use Rattle.hdl_forms.proofs.Rows.{put_in}
use Rattle.hdl_forms.proofs.history.history_part.Goals as goal

pub returns : goal.returns
returns c =
    let more = c.in_ok-part-2.ensures in
    let first : c.in_ok-part.part ≡ filled (markup_of templates.History) [] =
    put_in (markup_of templates.History) c.in_ok-part.part c.new.result c.new-2.result.list.items [] c.in_ok-part.ensures c.new.ensures c.new-2.ensures in
    IfOk-weaker c.with-2.result _ _
    (λ part e. (
      more.0,
      subst (λ entries. IsEntries entries more.0) c.few-shown.ensures more.1,
      e ∙ ap (λ t. c.in_ok-part-2.part ++ filled (markup_of templates.HistoryEnd) t) c.new-3.ensures
          ∙ ap (λ p. p ++ filled (markup_of templates.HistoryEnd) []) (more.2 ∙ ap (λ p. p ++ more.0) first),
    ))
    c.with-2.ensures
