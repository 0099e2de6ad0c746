use Rattle.std.proofs.Common.{◌≡◌, ◌∙◌, ◌++◌, ap, length, rules}
use Rattle.std.proofs.lemmas.Result.{IfOk-weaker}
use Rattle.hdl_forms.specs.Lists.{foot_template, found_top}
use Rattle.hdl_forms.specs.Template.{filled, markup_of}
use Rattle.hdl_forms.proofs.Rows.{footed}
use Rattle.hdl_forms.proofs.found.found_part.Goals as goal

pub returns : goal.returns
returns c =
    let r = c.args.request.now in
    let part = c.args.part.now in
    let count : c.len.result ≡ length part.found.items = search rules in
    IfOk-weaker c.with.result _ _
    (λ after e. footed (markup_of (foot_template part.next)) _ _ after (found_top r (length part.found.items)) c.args.handles.now c.deref.result.now part.found.items c.new.result.list.items
    (c.in_ok-page.ensures ∙ ap (found_top r) count) c.in_ok-page-2.ensures c.deref.ensures.value
    (e ∙ ap (λ t. c.in_ok-page-2.page ++ filled (markup_of t) c.new.result.list.items) c.foot_template.ensures) c.new.ensures)
    c.with.ensures
