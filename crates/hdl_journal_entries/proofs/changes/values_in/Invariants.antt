use Rattle.std.proofs.Common.{◌≡◌, ◌++◌, List, Ok}
use Rattle.hdl_value.specs.declared.value.Value.{Value}
use Rattle.hdl_msg.specs.Views.{values_of}
use Rattle.hdl_journal_entries.specs.Changes.{◌>>>◌, values_from}
use Rattle.hdl_journal_entries.proofs.changes.values_in.Given as goal

abbrev pub invariant-loop-value : goal.invariant-loop-value
invariant-loop-value l = values_from (values_of l.fn.values) ≡ (values_from (values_of l.values) >>> λ (vs : List Value). Ok (l.all.items ++ vs))
