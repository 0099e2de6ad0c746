use Rattle.std.proofs.Common.{refl, rules}
use Rattle.hdl_rest.proofs.asking.success_or_code.Goals as goal

pub returns-then-code-number-clause-told : goal.returns-then-code-number-clause-told
returns-then-code-number-clause-told c = (_, c.view-code.ensures.seen, search rules)

pub returns-else-code-number-clause-told : goal.returns-else-code-number-clause-told
returns-else-code-number-clause-told c = (_, c.view-code.ensures.seen, refl)
