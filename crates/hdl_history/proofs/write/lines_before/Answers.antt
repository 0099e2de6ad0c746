use Rattle.std.proofs.Common.{arith}
use Rattle.std.proofs.lemmas.Grind.{common_steps}
use Rattle.hdl_history.proofs.Lists.{longer}
use Rattle.hdl_history.proofs.write.lines_before.Goals as goal

pub returns-then-count-gt-VALUES_TEXT_MAX-clause-long : goal.returns-then-count-gt-VALUES_TEXT_MAX-clause-long
returns-then-count-gt-VALUES_TEXT_MAX-clause-long c = λ _.
    let whole = longer c.args.values.now c.loop-value.value-index c.value-item.result c.loop-value-test.true in
    grind (arith, common_steps, whole)
