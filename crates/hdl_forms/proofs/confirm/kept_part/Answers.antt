use Rattle.std.proofs.Common.{◌≡◌, ◌∙◌, ◌∷◌, [], ap, sym, false, if◌then◌else◌, rules}
use Rattle.std.specs.Prelude.{decimal}
use Rattle.std.proofs.lemmas.Result.{IfOk-weaker}
use Rattle.hdl_forms.specs.Change.{is_create}
use Rattle.hdl_forms.specs.Fields.{with_text}
use Rattle.hdl_forms.specs.Template.{markup_of}
use Rattle.hdl_forms.specs.declared.markup.Template.TheVariants as templates
use Rattle.hdl_forms.proofs.Parts.{one_text}
use Rattle.hdl_forms.proofs.Rows.{put_in}
use Rattle.hdl_forms.proofs.confirm.kept_part.Goals as goal

pub returns : goal.returns
returns c =
    let there : is_create c.args.task ≡ false = search rules in
    let number = decimal c.args.kept in
    let texts = one_text number c.new.result.list.items c.in_ok-and_number.field-0.list.items c.new.ensures c.in_ok-and_number.ensures in
    IfOk-weaker c.with.result _ _
    (λ part e. put_in (markup_of templates.Kept) part c.new-part.result c.in_ok-and_number.field-0.list.items (number ∷ []) e c.new-part.ensures texts
    ∙ ap (λ b. if b then [] else with_text templates.Kept number) (sym there))
    c.with.ensures
