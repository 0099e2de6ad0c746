use Rattle.std.proofs.Common.{◌<◌, length, inr, sym, ◌∙◌}
use Rattle.std.proofs.lemmas.Result.{on_ok_weaker}
use Rattle.hdl_proxy.proofs.Sections.{positive}
use Rattle.hdl_proxy.proofs.pages.put_values.Goals as goal

pub returns : goal.returns
returns c =
    let some : 0 < length c.args.values.now = positive _ (sym c.is_empty.ensures ∙ c.if-is_empty.false) in
    on_ok_weaker c.put_table.result (λ put. (put.0, inr (some, put.1), put.2)) c.put_table.ensures
