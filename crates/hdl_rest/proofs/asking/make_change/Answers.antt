use Rattle.std.proofs.Common.{None, refl}
use Rattle.hdl_rest.proofs.Ones.{told_none}
use Rattle.hdl_rest.proofs.Sendings.{asked_so, made}
use Rattle.hdl_rest.proofs.asking.make_change.Goals as goal

pub returns-in-Ok-clause-asked : goal.returns-in-Ok-clause-asked
returns-in-Ok-clause-asked g c = asked_so c.in-Ok.ensures.asked (made _ _ _ _ c.success_or_code.ensures.told)

pub returns-in-Err-clause-asked : goal.returns-in-Err-clause-asked
returns-in-Err-clause-asked g c = asked_so c.in-Err.ensures.asked (made _ _ _ _ (told_none _ None c.in-Err.ensures.unanswered refl))
