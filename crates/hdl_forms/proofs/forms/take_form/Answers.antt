use Rattle.std.proofs.Common.{subst, rules}
use Rattle.std.specs.Prelude.{IfOk}
use Rattle.hdl_forms.specs.Taken.{IsOrderOf, IsStep, IsWarned, about}
use Rattle.hdl_forms.proofs.forms.take_form.Goals as goal

pub returns-clause-step : goal.returns-clause-step
returns-clause-step c =
    subst (λ pairs. IfOk c.take_fields.result (IsStep (IsWarned (about c.args.place.now pairs) pairs) (IsOrderOf (about c.args.place.now pairs) pairs))) (search rules) c.take_fields.ensures.step
