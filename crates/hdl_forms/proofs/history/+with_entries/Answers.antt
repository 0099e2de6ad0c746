use Rattle.std.proofs.Common.{◌∙◌, ◌++◌, ap, subst, arith}
use Rattle.std.proofs.lemmas.List.{append_assoc}
use Rattle.std.proofs.lemmas.Result.{IfOk-weaker}
use Rattle.hdl_forms.specs.History.{IsEntries}
use Rattle.hdl_forms.proofs.Entries.{entries_more, others}
use Rattle.hdl_forms.proofs.history.+with_entries.Goals as goal

pub returns : goal.returns
returns n c =
    let first = c.in_ok-page.ensures in
    IfOk-weaker c.with_entries.result _ _
    (λ after more. (
      first.0 ++ more.0,
      entries_more c.args.entries.now _ _ first.0 more.0 (omega (arith, c.in-len1-up.len_at_least)) c.first-item.is first.1 (subst (λ entries. IsEntries entries more.0) (others c.args.entries.now) more.1),
      more.2 ∙ ap (λ p. p ++ more.0) first.2 ∙ append_assoc c.args.page first.0 more.0,
    ))
    c.with_entries.ensures
