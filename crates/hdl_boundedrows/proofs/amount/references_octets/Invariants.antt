use Rattle.std.proofs.Common.{◌≡◌, sum_by, take}
use Rattle.hdl_boundedrows.specs.Amount.{reference_octets}
use Rattle.hdl_limits.specs.Counts.{at_most_u64}
use Rattle.hdl_boundedrows.proofs.amount.references_octets.Given as goal

abbrev pub invariant-loop-r : goal.invariant-loop-r
invariant-loop-r l = l.sum ≡ at_most_u64 (sum_by reference_octets (take l.r-index l.refs))
