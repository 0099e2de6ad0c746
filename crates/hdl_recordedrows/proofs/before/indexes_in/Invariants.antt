use Rattle.std.proofs.Common.{◌≡◌, take}
use Rattle.hdl_rows.specs.Table.{indexes}
use Rattle.hdl_recordedrows.proofs.before.indexes_in.Given as goal

abbrev pub invariant-loop-value : goal.invariant-loop-value
invariant-loop-value l = l.all.items ≡ indexes (take l.value-index l.values)
