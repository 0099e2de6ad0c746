use Rattle.std.proofs.Common.{◌≡◌, ◌++◌, length}
use Rattle.hdl_partitionedrows.specs.Partitioned.{merged}
use Rattle.hdl_partitionedrows.proofs.merging.merge.Given as goal

abbrev pub invariant-loop-name : goal.invariant-loop-name
invariant-loop-name l = l.all.items ++ merged l.first.items l.second.items ≡ merged l.fn.first.items l.fn.second.items

abbrev pub decreases-loop-name : goal.decreases-loop-name
decreases-loop-name l = length (merged l.first.items l.second.items)
