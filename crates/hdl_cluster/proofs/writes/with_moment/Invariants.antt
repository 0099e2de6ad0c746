use Rattle.std.proofs.Common.{◌≡◌, map, ◌++◌, take, drop}
use Rattle.hdl_ops.specs.Tables.{with_timestamp}
use Rattle.hdl_cluster.proofs.writes.with_moment.Given as goal

abbrev pub invariant-loop-value : goal.invariant-loop-value
invariant-loop-value l = l.value-items ≡ map (with_timestamp l.moment) (take l.value-index l.initial.value-items) ++ drop l.value-index l.initial.value-items
