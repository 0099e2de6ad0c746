use Rattle.std.proofs.Common.{◌≡◌, ◌++◌, drop}
use Rattle.hdl_rest.specs.Plan.{missing_indexes}
use Rattle.hdl_rest.proofs.plan.missing_indexes.Given as goal

abbrev pub invariant-loop-index : goal.invariant-loop-index
invariant-loop-index l = l.gone.items ++ missing_indexes (drop l.index-index l.there) l.values ≡ missing_indexes l.there l.values
