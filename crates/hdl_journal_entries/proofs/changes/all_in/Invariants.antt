use Rattle.std.proofs.Common.{◌≡◌, ◌++◌, List, Ok, drop}
use Rattle.hdl_journal_entries.specs.declared.changes.DatedChange.{DatedChange}
use Rattle.hdl_journal_entries.specs.Changes.{◌>>>◌, changes_in}
use Rattle.hdl_journal_entries.proofs.changes.all_in.Given as goal

abbrev pub invariant-loop-dated : goal.invariant-loop-dated
invariant-loop-dated l = changes_in l.messages ≡ (changes_in (drop l.dated-index l.messages) >>> λ (cs : List DatedChange). Ok (l.all.items ++ cs))
