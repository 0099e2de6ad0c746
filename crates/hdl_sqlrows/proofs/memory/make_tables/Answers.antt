use Rattle.hdl_rows.specs.Table.{no_rows}
use Rattle.hdl_sqlrows.proofs.InMemory.{blank_where, made_settled, made_filed}
use Rattle.hdl_sqlrows.proofs.memory.make_tables.Goals as goal

pub make_tables-requires-clause-blank : goal.make_tables-requires-clause-blank
make_tables-requires-clause-blank c = blank_where c.args.conn.now c.requires.blank

pub returns-clause-settled : goal.returns-clause-settled
returns-clause-settled c = made_settled c.make_tables.new.conn c.make_tables.result c.make_tables.ensures.settled

pub returns-clause-empty : goal.returns-clause-empty
returns-clause-empty c = made_filed c.make_tables.new.conn no_rows c.make_tables.result (returns-clause-settled c) c.make_tables.ensures.done
