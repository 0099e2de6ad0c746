use Rattle.hdl_rows.proofs.Prefixes.{none_have}
use Rattle.hdl_rows.proofs.plain.PlainRows.new.Goals as goal

pub invariant_of-result : goal.invariant_of-result
invariant_of-result c = none_have c.new.result c.new.ensures
