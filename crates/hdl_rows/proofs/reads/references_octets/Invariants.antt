use Rattle.std.proofs.Common.{◌≡◌, sum_by, take}
use Rattle.hdl_rows.specs.Reads.{reference_octets}
use Rattle.hdl_limits.specs.Counts.{at_most_u64}
use Rattle.hdl_rows.proofs.reads.references_octets.Given as goal

abbrev pub invariant-loop-r : goal.invariant-loop-r
invariant-loop-r l = l.sum ≡ at_most_u64 (sum_by reference_octets (take l.r-index l.refs))
