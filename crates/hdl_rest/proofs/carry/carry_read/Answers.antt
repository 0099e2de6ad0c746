use Rattle.hdl_rest.proofs.Ones.{answered_sends, unanswered_sends}
use Rattle.hdl_rest.proofs.Sendings.{asked_so}
use Rattle.hdl_rest.proofs.carry.carry_read.Goals as goal

pub returns-in-Ok-clause-asked : goal.returns-in-Ok-clause-asked
returns-in-Ok-clause-asked g c = asked_so c.in-Ok.ensures.asked (answered_sends _ _ _ _ c.view.ensures.seen)

pub returns-in-Err-clause-asked : goal.returns-in-Err-clause-asked
returns-in-Err-clause-asked g c = asked_so c.in-Err.ensures.asked (unanswered_sends _ _)
