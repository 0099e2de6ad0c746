use Rattle.hdl_journal_entries.specs.Entries.{dated_at}
use Rattle.hdl_journal_entries.proofs.Loops.{SoFar}
use Rattle.hdl_journal_entries.proofs.reading.messages_in.Given as goal

abbrev pub invariant-loop : goal.invariant-loop
invariant-loop l = SoFar dated_at l.count l.counter l.octets l.rest l.messages.items
