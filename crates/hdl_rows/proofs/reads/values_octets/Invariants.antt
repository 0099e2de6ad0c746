use Rattle.std.proofs.Common.{◌≡◌, sum_by, take}
use Rattle.hdl_rows.specs.Reads.{value_octets}
use Rattle.hdl_limits.specs.Counts.{at_most_u64}
use Rattle.hdl_rows.proofs.reads.values_octets.Given as goal

abbrev pub invariant-loop-value : goal.invariant-loop-value
invariant-loop-value l = l.sum ≡ at_most_u64 (sum_by value_octets (take l.value-index l.values))
