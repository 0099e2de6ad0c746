use Rattle.std.proofs.lemmas.Result.{IfOk-weaker}
use Rattle.hdl_forms.proofs.lists.whole_form.Goals as goal

pub returns : goal.returns
returns c = IfOk-weaker c.with_buttons.result _ _ (λ page e. (c.in_ok-form.form, c.in_ok-form.ensures, e)) c.with_buttons.ensures
