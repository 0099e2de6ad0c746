use Rattle.std.proofs.Common.{true, false}
use Rattle.hdl_rest.proofs.Sendings.{asked_so, one_done, one_undone, told_done}
use Rattle.hdl_rest.proofs.carry.carry_one.Goals as goal

pub returns-in-Ok-clause-asked : goal.returns-in-Ok-clause-asked
returns-in-Ok-clause-asked g c = asked_so c.in-Ok.ensures.asked (λ xs makes. (true, one_done _ _ _ xs makes, told_done _ _ _ c.success.ensures.told c.requires))

pub returns-in-Err-clause-asked : goal.returns-in-Err-clause-asked
returns-in-Err-clause-asked g c = asked_so c.in-Err.ensures.asked (λ xs makes. (false, one_undone _ _ _ xs makes c.in-Err.ensures.failure, c.answer_to_stop.ensures.undone))
