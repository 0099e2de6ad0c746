use Rattle.std.proofs.Common.{◌≡◌, sum_by, take}
use Rattle.hdl_boundedrows.specs.Amount.{in_handles, in_values, in_octets}
use Rattle.hdl_limits.specs.Counts.{at_most_u64}
use Rattle.hdl_boundedrows.proofs.amount.values_count.Given as goal

abbrev pub invariant-loop-value : goal.invariant-loop-value
invariant-loop-value l = (l.sum.handles ≡ at_most_u64 (sum_by in_handles.value (take l.value-index l.values))) × (l.sum.amount.values ≡ at_most_u64 (sum_by in_values.value (take l.value-index l.values))) × (l.sum.amount.octets ≡ at_most_u64 (sum_by in_octets.value (take l.value-index l.values)))
