use Rattle.std.proofs.Common.{◌≡◌, ◌++◌}
use Rattle.hdl_msg.specs.Views.{numbers_of}
use Rattle.hdl_journal_entries.proofs.changes.indexes_in.Given as goal

abbrev pub invariant-loop-index : goal.invariant-loop-index
invariant-loop-index l = l.all.items ++ numbers_of l.indexes ≡ numbers_of l.fn.indexes
