use Rattle.std.proofs.Common.{◌≡◌, ◌∙◌, ◌∷◌, [], ap, sym, Some, rules}
use Rattle.std.proofs.lemmas.Result.{IfOk-weaker}
use Rattle.hdl_forms.specs.Template.{markup_of}
use Rattle.hdl_forms.specs.Warnings.{meant_type, warning_of}
use Rattle.hdl_forms.specs.declared.markup.Template.TheVariants as templates
use Rattle.hdl_forms.proofs.Parts.{one_text}
use Rattle.hdl_forms.proofs.Rows.{put_in}
use Rattle.hdl_forms.proofs.warnings.type_warning.Goals as goal

pub returns-in_ok-and-in-Some : goal.returns-in_ok-and-in-Some
returns-in_ok-and-in-Some c =
    let meant = c.in-Some.meant.now in
    let said : meant_type c.args.kind.now ≡ Some meant = search rules in
    let texts = one_text meant c.new.result.list.items c.in_ok-and-in-Some.field-0.list.items c.new.ensures c.in_ok-and-in-Some.ensures in
    IfOk-weaker c.with.result _ _
    (λ part e. put_in (markup_of templates.TypeWarning) part c.new-part.result c.in_ok-and-in-Some.field-0.list.items (meant ∷ []) e c.new-part.ensures texts ∙ ap warning_of (sym said)) c.with.ensures
