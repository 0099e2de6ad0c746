use Rattle.std.proofs.Common.{take}
use Rattle.std.specs.List.{AllZip}
use Rattle.hdl_change_list.specs.Sequence.{Makes}
use Rattle.hdl_change_list.proofs.list.operations_of.Given as goal

abbrev pub invariant-loop-write : goal.invariant-loop-write
invariant-loop-write l = AllZip Makes (take l.write-index l.writes) l.operations.items
