use Rattle.hdl_rows.specs.Table.{Table, with_values, indexes, AreAbsent}
use Rattle.hdl_sqlrows.proofs.InMemory.{idle, settled_where, settled_here, allowed_where, done_here, undone_here}
use Rattle.hdl_sqlrows.proofs.memory.add.Goals as goal

pub add-requires-clause-mode : goal.add-requires-clause-mode
add-requires-clause-mode c = idle c.args.conn.now c.requires.settled

pub add-requires-clause-settled : goal.add-requires-clause-settled
add-requires-clause-settled c = settled_where c.args.conn.now c.requires.settled

pub add-requires-clause-absent : goal.add-requires-clause-absent
add-requires-clause-absent c = allowed_where c.args.conn.now (λ (t : Table). AreAbsent t c.args.name.now (indexes c.args.values.now)) c.requires.settled c.requires.absent

pub returns-clause-settled : goal.returns-clause-settled
returns-clause-settled c = settled_here c.add.new.conn c.add.ensures.settled

pub returns-clause-done : goal.returns-clause-done
returns-clause-done c = done_here c.args.conn.now c.add.new.conn (λ (t : Table). with_values t c.args.name.now c.args.values.now) c.add.result c.requires.settled (settled_here c.add.new.conn c.add.ensures.settled) c.add.ensures.done

pub returns-clause-undone : goal.returns-clause-undone
returns-clause-undone c = undone_here c.args.conn.now c.add.new.conn c.add.result c.requires.settled (settled_here c.add.new.conn c.add.ensures.settled) c.add.ensures.undone
