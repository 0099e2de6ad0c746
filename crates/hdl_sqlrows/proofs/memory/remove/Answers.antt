use Rattle.hdl_rows.specs.Table.{Table, without_values}
use Rattle.hdl_sqlrows.proofs.InMemory.{idle, settled_where, settled_here, done_here, undone_here}
use Rattle.hdl_sqlrows.proofs.memory.remove.Goals as goal

pub remove-requires-clause-mode : goal.remove-requires-clause-mode
remove-requires-clause-mode c = idle c.args.conn.now c.requires.settled

pub remove-requires-clause-settled : goal.remove-requires-clause-settled
remove-requires-clause-settled c = settled_where c.args.conn.now c.requires.settled

pub returns-clause-settled : goal.returns-clause-settled
returns-clause-settled c = settled_here c.remove.new.conn c.remove.ensures.settled

pub returns-clause-done : goal.returns-clause-done
returns-clause-done c = done_here c.args.conn.now c.remove.new.conn (λ (t : Table). without_values t c.args.name.now c.args.indexes.now) c.remove.result c.requires.settled (settled_here c.remove.new.conn c.remove.ensures.settled) c.remove.ensures.done

pub returns-clause-undone : goal.returns-clause-undone
returns-clause-undone c = undone_here c.args.conn.now c.remove.new.conn c.remove.result c.requires.settled (settled_here c.remove.new.conn c.remove.ensures.settled) c.remove.ensures.undone
