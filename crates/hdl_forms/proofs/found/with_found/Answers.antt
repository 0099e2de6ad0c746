use Rattle.std.proofs.Common.{◌<◌, ◌∙◌, length, sym}
use Rattle.std.proofs.lemmas.Result.{IfOk-weaker}
use Rattle.hdl_proxy.proofs.Sections.{positive}
use Rattle.hdl_forms.proofs.Rows.{some_found}
use Rattle.hdl_forms.proofs.found.with_found.Goals as goal

pub returns-else-is_empty : goal.returns-else-is_empty
returns-else-is_empty c =
    let some : 0 < length c.args.places.now = positive _ (sym c.is_empty.ensures ∙ c.if-is_empty.false) in
    IfOk-weaker c.with_list.result _ _ (λ after e. e ∙ some_found c.args.page c.args.handles.now c.args.places.now some) c.with_list.ensures
