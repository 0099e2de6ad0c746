use Rattle.hdl_rest.proofs.Leaves.{given_by, not_given}
use Rattle.hdl_rest.proofs.Sendings.{asked_so}
use Rattle.hdl_rest.proofs.list_permission.ask_leave.Goals as goal

pub returns-in-Ok-clause-asked : goal.returns-in-Ok-clause-asked
returns-in-Ok-clause-asked g c = asked_so c.in-Ok.ensures.asked (given_by _ _ _ _ _ c.view.ensures.seen c.leave_in_reply.ensures.given)

pub returns-in-Err-clause-asked : goal.returns-in-Err-clause-asked
returns-in-Err-clause-asked g c = asked_so c.in-Err.ensures.asked (not_given _ _ _)
