use Rattle.std.proofs.Common.{◌≡◌, false}
use Rattle.hdl_rows.specs.Table.{Table, has, with_new_handle, indexes, AreAbsent}
use Rattle.hdl_sqlrows.proofs.InMemory.{idle, settled_where, settled_here, allowed_where, done_here, undone_here}
use Rattle.hdl_sqlrows.proofs.memory.create.Goals as goal

pub create-requires-clause-mode : goal.create-requires-clause-mode
create-requires-clause-mode c = idle c.args.conn.now c.requires.settled

pub create-requires-clause-settled : goal.create-requires-clause-settled
create-requires-clause-settled c = settled_where c.args.conn.now c.requires.settled

pub create-requires-clause-none : goal.create-requires-clause-none
create-requires-clause-none c = allowed_where c.args.conn.now (λ (t : Table). has t c.args.name.now ≡ false) c.requires.settled c.requires.none

pub create-requires-clause-absent : goal.create-requires-clause-absent
create-requires-clause-absent c = allowed_where c.args.conn.now (λ (t : Table). AreAbsent t c.args.name.now (indexes c.args.values.now)) c.requires.settled c.requires.absent

pub returns-clause-settled : goal.returns-clause-settled
returns-clause-settled c = settled_here c.create.new.conn c.create.ensures.settled

pub returns-clause-done : goal.returns-clause-done
returns-clause-done c = done_here c.args.conn.now c.create.new.conn (λ (t : Table). with_new_handle t c.args.name.now c.args.values.now) c.create.result c.requires.settled (settled_here c.create.new.conn c.create.ensures.settled) c.create.ensures.done

pub returns-clause-undone : goal.returns-clause-undone
returns-clause-undone c = undone_here c.args.conn.now c.create.new.conn c.create.result c.requires.settled (settled_here c.create.new.conn c.create.ensures.settled) c.create.ensures.undone
