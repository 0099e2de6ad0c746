use Rattle.std.proofs.Common.{◌≡◌, ◌+◌, sum_by, take, length}
use Rattle.hdl_cachedrows.specs.Cost.{value_cost}
use Rattle.hdl_limits.specs.Counts.{at_most_u64}
use Rattle.hdl_cachedrows.specs.declared.cost.TheConstants.{HANDLE_COST}
use Rattle.hdl_cachedrows.proofs.cost.entry_cost.Given as goal

abbrev pub invariant-loop-value : goal.invariant-loop-value
invariant-loop-value l = l.sum ≡ at_most_u64 (HANDLE_COST + length l.fn.name + sum_by value_cost (take l.value-index l.values))
