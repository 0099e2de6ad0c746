use Rattle.std.proofs.Common.{◌≡◌, ◌∙◌, ◌++◌, ◌∷◌, [], ap, ℕ, List}
use Rattle.std.proofs.lemmas.Result.{IfOk-weaker}
use Rattle.hdl_forms.specs.Confirm.{edit_address, followed_address, fresh_address}
use Rattle.hdl_forms.specs.Template.{markup_of}
use Rattle.hdl_forms.specs.declared.markup.Template.TheVariants as templates
use Rattle.hdl_forms.proofs.Parts.{three_texts}
use Rattle.hdl_forms.proofs.Rows.{put_in}
use Rattle.hdl_forms.proofs.confirm.ways_on.Goals as goal

pub returns : goal.returns
returns c =
    let name = c.args.name.now in
    let given = fresh_address name ∷ followed_address name ∷ edit_address name ∷ [] in
    let texts : c.in_ok-texts-2.texts.list.items ≡ given =
    three_texts c.as_bytes.result.now c.as_bytes-2.result.now c.as_bytes-3.result.now (fresh_address name) (followed_address name) (edit_address name)
    c.new.result.list.items c.in_ok-texts.texts.list.items c.in_ok-and.field-0.list.items c.in_ok-texts-2.texts.list.items
    (c.as_bytes.ensures.value ∙ c.in_ok-fresh.ensures) (c.as_bytes-2.ensures.value ∙ c.in_ok-followed.ensures) (c.as_bytes-3.ensures.value ∙ c.in_ok-edit.ensures)
    c.new.ensures c.in_ok-texts.ensures c.in_ok-and.ensures c.in_ok-texts-2.ensures in
    IfOk-weaker c.with.result _ _ (λ part e. put_in (markup_of templates.Done) part c.new-2.result c.in_ok-texts-2.texts.list.items given e c.new-2.ensures texts) c.with.ensures
