use Rattle.std.proofs.Common.{◌≡◌, ◌++◌}
use Rattle.hdl_msg.specs.Views.{numbers_of}
use Rattle.hdl_ops.proofs.written.copied_indexes.Given as goal

abbrev pub invariant-loop-index : goal.invariant-loop-index
invariant-loop-index l = l.all.items ++ numbers_of l.indexes ≡ numbers_of l.fn.indexes
