use Rattle.std.proofs.Common.{true, false, refl, rules}
use Rattle.hdl_rest.proofs.Sendings.{asked_so, all_sent, part_sent, told_done}
use Rattle.hdl_rest.proofs.carry.carry_steps.Goals as goal

pub returns-in_default-None-clause-asked : goal.returns-in_default-None-clause-asked
returns-in_default-None-clause-asked g c = asked_so c.steps_done.ensures.asked (λ xs sends. (true, all_sent c.args.order.now.key c.args.steps.now xs _ (search rules) sends, told_done _ _ _ c.success.ensures.told refl))
