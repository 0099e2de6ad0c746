use Rattle.std.proofs.Common.{◌≡◌, true}
use Rattle.hdl_rows.specs.Table.{Table, has, without_handle}
use Rattle.hdl_sqlrows.proofs.InMemory.{idle, settled_where, settled_here, allowed_where, done_here, undone_here}
use Rattle.hdl_sqlrows.proofs.memory.delete.Goals as goal

pub delete-requires-clause-mode : goal.delete-requires-clause-mode
delete-requires-clause-mode c = idle c.args.conn.now c.requires.settled

pub delete-requires-clause-settled : goal.delete-requires-clause-settled
delete-requires-clause-settled c = settled_where c.args.conn.now c.requires.settled

pub delete-requires-clause-there : goal.delete-requires-clause-there
delete-requires-clause-there c = allowed_where c.args.conn.now (λ (t : Table). has t c.args.name.now ≡ true) c.requires.settled c.requires.there

pub returns-clause-settled : goal.returns-clause-settled
returns-clause-settled c = settled_here c.delete.new.conn c.delete.ensures.settled

pub returns-clause-done : goal.returns-clause-done
returns-clause-done c = done_here c.args.conn.now c.delete.new.conn (λ (t : Table). without_handle t c.args.name.now) c.delete.result c.requires.settled (settled_here c.delete.new.conn c.delete.ensures.settled) c.delete.ensures.done

pub returns-clause-undone : goal.returns-clause-undone
returns-clause-undone c = undone_here c.args.conn.now c.delete.new.conn c.delete.result c.requires.settled (settled_here c.delete.new.conn c.delete.ensures.settled) c.delete.ensures.undone
