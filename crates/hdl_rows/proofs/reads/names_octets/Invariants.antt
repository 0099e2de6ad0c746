use Rattle.std.proofs.Common.{◌≡◌, sum_by, take}
use Rattle.hdl_rows.specs.Reads.{name_octets}
use Rattle.hdl_limits.specs.Counts.{at_most_u64}
use Rattle.hdl_rows.proofs.reads.names_octets.Given as goal

abbrev pub invariant-loop-name : goal.invariant-loop-name
invariant-loop-name l = l.sum ≡ at_most_u64 (sum_by name_octets (take l.name-index l.names))
