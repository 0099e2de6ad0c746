use Rattle.std.proofs.Common.{◌≡◌, ◌∙◌, ◌++◌, ◌∷◌, [], ap, true, false, rules}
use Rattle.std.proofs.lemmas.Result.{IfOk-weaker}
use Rattle.hdl_forms.specs.Confirm.{fresh_address, is_unclear}
use Rattle.hdl_forms.specs.Fields.{with_text}
use Rattle.hdl_forms.specs.Template.{filled, markup_of}
use Rattle.hdl_forms.specs.declared.markup.Template.TheVariants as templates
use Rattle.hdl_forms.proofs.Parts.{one_text, ways_plain, ways_unclear}
use Rattle.hdl_forms.proofs.Rows.{put_in}
use Rattle.hdl_forms.proofs.confirm.ways_part.Goals as goal

pub returns-then-not-is_unclear : goal.returns-then-not-is_unclear
returns-then-not-is_unclear c =
    let clear : is_unclear c.args.status ≡ false = search rules in
    let back = c.as_bytes-back.result.now in
    let texts = one_text back c.new.result.list.items c.in_ok-back.back.list.items c.new.ensures c.in_ok-back.ensures in
    IfOk-weaker c.with.result _ _
    (λ part e. (
      back,
      ways_plain c.args.status c.args.form.now.name.items back part clear
          (put_in (markup_of templates.Back) part c.new-then-not-is_unclear.result c.in_ok-back.back.list.items (back ∷ []) e c.new-then-not-is_unclear.ensures texts),
    ))
    c.with.ensures

pub returns : goal.returns
returns c =
    let unclear : is_unclear c.args.status ≡ true = search rules in
    let name = c.args.form.now.name.items in
    let back = c.as_bytes-back.result.now in
    let texts = one_text back c.new.result.list.items c.in_ok-back.back.list.items c.new.ensures c.in_ok-back.ensures in
    let fresh : c.as_bytes.result.now ≡ fresh_address name = c.as_bytes.ensures.value ∙ c.in_ok-address.ensures ∙ ap fresh_address c.deref.ensures.value in
    let looks : c.in_ok-look.look.list.items ≡ fresh_address name ∷ [] =
    one_text c.as_bytes.result.now c.new-2.result.list.items c.in_ok-look.look.list.items c.new-2.ensures c.in_ok-look.ensures ∙ ap (λ a. a ∷ []) fresh in
    let look : c.in_ok-page.page ≡ with_text templates.Look (fresh_address name) =
    put_in (markup_of templates.Look) c.in_ok-page.page c.new-3.result c.in_ok-look.look.list.items (fresh_address name ∷ []) c.in_ok-page.ensures c.new-3.ensures looks in
    IfOk-weaker c.with-3.result _ _
    (λ part e. (
      back,
      ways_unclear c.args.status name back part unclear
          (e ∙ ap (λ t. c.in_ok-page.page ++ filled (markup_of templates.Back) t) texts ∙ ap (λ p. p ++ with_text templates.Back back) look),
    ))
    c.with-3.ensures
