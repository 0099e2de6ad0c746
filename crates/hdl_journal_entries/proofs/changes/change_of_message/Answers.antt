use Rattle.std.proofs.Common.{inr, arith}
use Rattle.hdl_journal_entries.proofs.Requests.{change_read, no_change}
use Rattle.hdl_journal_entries.proofs.changes.change_of_message.Goals as goal

pub returns-in-Ok-clause-value : goal.returns-in-Ok-clause-value
returns-in-Ok-clause-value c = rw (change_read c.args.message.now c.in-Ok.request c.in-Ok.ensures.read) c.change_of_request.ensures.value

pub returns-in-Ok-clause-fault : goal.returns-in-Ok-clause-fault
returns-in-Ok-clause-fault c = rw (change_read c.args.message.now c.in-Ok.request c.in-Ok.ensures.read) c.change_of_request.ensures.fault

pub returns-in-Err-clause-fault : goal.returns-in-Err-clause-fault
returns-in-Err-clause-fault c = inr (no_change c.args.message.now (λ i. omega (arith, c.type_inv.message i)) c.in-Err.ensures.malformed)
