use Rattle.std.proofs.Common.{◌≡◌, ◌∙◌, ◌∷◌, [], ap, rules}
use Rattle.std.specs.Prelude.{decimal}
use Rattle.std.proofs.lemmas.Result.{IfOk-weaker}
use Rattle.hdl_forms.specs.Lists.{or_any}
use Rattle.hdl_forms.specs.Template.{markup_of}
use Rattle.hdl_forms.specs.declared.markup.Template.TheVariants as templates
use Rattle.hdl_forms.proofs.Parts.{four_texts}
use Rattle.hdl_forms.proofs.Rows.{put_in}
use Rattle.hdl_forms.proofs.found.found_top.Goals as goal

pub returns : goal.returns
returns c =
    let r = c.args.request.now in
    let count = decimal c.args.count in
    let digits : c.as_bytes.result.now ≡ count = search rules in
    let given = r.prefix ∷ count ∷ or_any r.name ∷ or_any r.url ∷ [] in
    let texts : c.in_ok-texts-4.texts.list.items ≡ given =
    four_texts c.as_slice.result.now c.as_bytes.result.now c.or_any.result.now c.or_any-2.result.now r.prefix count (or_any r.name) (or_any r.url)
    c.new.result.list.items c.in_ok-texts.texts.list.items c.in_ok-texts-2.texts.list.items c.in_ok-texts-3.texts.list.items c.in_ok-texts-4.texts.list.items
    c.as_slice.ensures digits (c.or_any.ensures ∙ ap or_any c.as_slice-2.ensures) (c.or_any-2.ensures ∙ ap or_any c.as_slice-3.ensures)
    c.new.ensures c.in_ok-texts.ensures c.in_ok-texts-2.ensures c.in_ok-texts-3.ensures c.in_ok-texts-4.ensures in
    IfOk-weaker c.with.result _ _ (λ part e. put_in (markup_of templates.Found) part c.new-2.result c.in_ok-texts-4.texts.list.items given e c.new-2.ensures texts) c.with.ensures
