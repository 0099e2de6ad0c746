use Rattle.std.proofs.Common.{◌≡◌, take}
use Rattle.hdl_boundedrows.specs.Amount.{in_handles, in_values, in_octets, values_at}
use Rattle.hdl_limits.specs.Counts.{at_most_u64}
use Rattle.hdl_boundedrows.proofs.amount.count_of_indexes.Given as goal

abbrev pub invariant-loop-index : goal.invariant-loop-index
invariant-loop-index l = (l.sum.handles ≡ at_most_u64 (values_at in_handles l.held (take l.index-index l.indexes))) × (l.sum.amount.values ≡ at_most_u64 (values_at in_values l.held (take l.index-index l.indexes))) × (l.sum.amount.octets ≡ at_most_u64 (values_at in_octets l.held (take l.index-index l.indexes)))
