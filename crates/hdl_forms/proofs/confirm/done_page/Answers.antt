use Rattle.std.proofs.Common.{◌≡◌, ◌∙◌, ◌++◌, ap}
use Rattle.std.proofs.lemmas.List.{append_assoc}
use Rattle.std.proofs.lemmas.Result.{IfOk-weaker}
use Rattle.hdl_forms.specs.Confirm.{done_part, kept_part, ways_on}
use Rattle.hdl_forms.proofs.Parts.{has_last}
use Rattle.hdl_forms.proofs.confirm.done_page.Goals as goal

pub returns-clause-fresh : goal.returns-clause-fresh
returns-clause-fresh c =
    let name = c.args.form.now.name.items in
    let kept = kept_part c.args.form.now.draft.task c.args.kept in
    let ways : c.in_ok-ways_on.field-0 ≡ ways_on name = c.in_ok-ways_on.ensures ∙ ap ways_on c.deref.ensures.value in
    let before = c.in_ok-page.page in
    let first = c.in_ok-page-2.ensures ∙ ap (λ p. before ++ p) c.in_ok-kept_part.ensures in
    let both = c.in_ok-page-3.ensures ∙ ap (λ p. p ++ c.in_ok-ways_on.field-0) first ∙ ap (λ p. (before ++ kept) ++ p) ways ∙ append_assoc before kept (ways_on name) in
    IfOk-weaker c.answer_of.result _ _ (λ answer e. has_last before (done_part c.args.form.now.draft.task name c.args.kept) answer.body.items (e ∙ both)) c.answer_of.ensures.body
