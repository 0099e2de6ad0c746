use Rattle.std.proofs.Common.{◌≡◌, sum_by, take}
use Rattle.hdl_cachedrows.specs.Cost.{reference_cost}
use Rattle.hdl_limits.specs.Counts.{at_most_u64}
use Rattle.hdl_cachedrows.proofs.cost.references_cost.Given as goal

abbrev pub invariant-loop-r : goal.invariant-loop-r
invariant-loop-r l = l.sum ≡ at_most_u64 (sum_by reference_cost (take l.r-index l.refs))
