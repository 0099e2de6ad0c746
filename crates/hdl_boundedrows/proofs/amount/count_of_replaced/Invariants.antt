use Rattle.std.proofs.Common.{◌≡◌, take}
use Rattle.hdl_rows.specs.Table.{indexes}
use Rattle.hdl_boundedrows.specs.Amount.{in_handles, in_values, in_octets, values_at}
use Rattle.hdl_limits.specs.Counts.{at_most_u64}
use Rattle.hdl_boundedrows.proofs.amount.count_of_replaced.Given as goal

abbrev pub invariant-loop-value : goal.invariant-loop-value
invariant-loop-value l = (l.sum.handles ≡ at_most_u64 (values_at in_handles l.held (indexes (take l.value-index l.values)))) × (l.sum.amount.values ≡ at_most_u64 (values_at in_values l.held (indexes (take l.value-index l.values)))) × (l.sum.amount.octets ≡ at_most_u64 (values_at in_octets l.held (indexes (take l.value-index l.values))))
