use Rattle.std.proofs.Common.{◌≡◌, ◌∙◌, ◌++◌, [], ap, refl}
use Rattle.std.proofs.lemmas.Result.{IfOk-weaker}
use Rattle.hdl_forms.specs.History.{before_part}
use Rattle.hdl_forms.specs.Template.{filled, markup_of}
use Rattle.hdl_forms.specs.declared.markup.Template.TheVariants as templates
use Rattle.hdl_forms.proofs.Parts.{three_parts}
use Rattle.hdl_forms.proofs.history.with_entry.Goals as goal

pub returns : goal.returns
returns c =
    let head = c.in_ok-page.ensures in
    let middle = before_part c.args.entry.now.before in
    let end = filled (markup_of templates.EntryEnd) [] in
    IfOk-weaker c.with.result _ _
    (λ after e. (
      (head.0 ++ middle) ++ end,
      (head.0, head.1, refl),
      three_parts c.args.page head.0 middle end c.in_ok-page.page c.in_ok-page-2.page after head.2 c.in_ok-page-2.ensures
          (e ∙ ap (λ t. c.in_ok-page-2.page ++ filled (markup_of templates.EntryEnd) t) c.new.ensures),
    ))
    c.with.ensures
