use Rattle.hdl_rows.specs.Table.{Table, with_values, indexes, ArePresent}
use Rattle.hdl_sqlrows.proofs.InMemory.{idle, settled_where, settled_here, allowed_where, done_here, undone_here}
use Rattle.hdl_sqlrows.proofs.memory.modify.Goals as goal

pub modify-requires-clause-mode : goal.modify-requires-clause-mode
modify-requires-clause-mode c = idle c.args.conn.now c.requires.settled

pub modify-requires-clause-settled : goal.modify-requires-clause-settled
modify-requires-clause-settled c = settled_where c.args.conn.now c.requires.settled

pub modify-requires-clause-there : goal.modify-requires-clause-there
modify-requires-clause-there c = allowed_where c.args.conn.now (λ (t : Table). ArePresent t c.args.name.now (indexes c.args.values.now)) c.requires.settled c.requires.there

pub returns-clause-settled : goal.returns-clause-settled
returns-clause-settled c = settled_here c.modify.new.conn c.modify.ensures.settled

pub returns-clause-done : goal.returns-clause-done
returns-clause-done c = done_here c.args.conn.now c.modify.new.conn (λ (t : Table). with_values t c.args.name.now c.args.values.now) c.modify.result c.requires.settled (settled_here c.modify.new.conn c.modify.ensures.settled) c.modify.ensures.done

pub returns-clause-undone : goal.returns-clause-undone
returns-clause-undone c = undone_here c.args.conn.now c.modify.new.conn c.modify.result c.requires.settled (settled_here c.modify.new.conn c.modify.ensures.settled) c.modify.ensures.undone
