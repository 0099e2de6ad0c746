use Rattle.std.proofs.Common.{◌≡◌, inl, true, false, Ok, Some, rules}
use Rattle.std.specs.declared.alloc.AllocError.{AllocError}
use Rattle.hdl_rest.specs.Sending.{says_done}
use Rattle.hdl_rest.proofs.Sendings.{asked_so, asked_then}
use Rattle.hdl_forms.specs.Guarded.{is_of_shown}
use Rattle.hdl_forms.proofs.Unchanged.{refused, stopped, went_on}
use Rattle.hdl_forms.proofs.guarded.carry_form.Goals as goal

pub returns-in-Ok-Some-clause-asked : goal.returns-in-Ok-Some-clause-asked
returns-in-Ok-Some-clause-asked g c =
    let shown : is_of_shown c.args.form.draft.task ≡ true = search rules in
    let there : c.in_ok-value.field-0 ≡ Ok (Some c.in-Ok-Some.value) = search rules in
    asked_then c.in_ok-value.ensures.asked c.carry_on-in-Ok-Some.ensures.asked (λ xs ys tried carried.
    inl (shown, went_on AllocError c.args.order.now c.args.body.now c.args.form.draft c.in-Ok-Some.value c.in_ok-value.field-0 c.carry_on-in-Ok-Some.result xs ys there (c.is_as_shown.ensures.0 c.if-is_as_shown.true) tried carried))

pub returns-in-Err-clause-asked : goal.returns-in-Err-clause-asked
returns-in-Err-clause-asked g c =
    let shown : is_of_shown c.args.form.draft.task ≡ true = search rules in
    let undone : says_done c.in-Err.answer.status ≡ false = search rules in
    asked_so c.in_ok-value.ensures.asked (λ xs tried. inl (shown, stopped c.args.order.now c.args.body.now c.args.form.draft _ c.result_page.result xs (refused c.in-Err.answer c.result_page.result undone c.result_page.ensures.page) tried))
