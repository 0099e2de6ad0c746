use Rattle.std.proofs.Common.{subst, rules}
use Rattle.std.specs.Prelude.{IfOk}
use Rattle.hdl_proxy.specs.Query.{texts_of}
use Rattle.hdl_forms.specs.Taken.{IsOrderOf, IsStep, IsWarned}
use Rattle.hdl_forms.proofs.Straight.{straight}
use Rattle.hdl_forms.proofs.forms.take_fields.Goals as goal

pub returns-in-Ok-read_draft-clause-step : goal.returns-in-Ok-read_draft-clause-step
returns-in-Ok-read_draft-clause-step c =
    subst (λ name. IfOk c.take_filled.result (IsStep (IsWarned name (texts_of c.args.pairs.now)) (IsOrderOf name (texts_of c.args.pairs.now)))) (search rules) c.take_filled.ensures.step

pub returns-in-Ok-read_draft-clause-straight : goal.returns-in-Ok-read_draft-clause-straight
returns-in-Ok-read_draft-clause-straight c = straight c.args.host.now _ _ c.take_filled.result (search rules) c.take_filled.ensures.same
