use Rattle.std.proofs.Common.{sym}
use Rattle.hdl_tables.proofs.opening.table_in.Goals as goal

pub table_with_threads-requires-clause-distinct : goal.table_with_threads-requires-clause-distinct
table_with_threads-requires-clause-distinct g c = rw c.opening-opening.ensures.rows c.opening-opening.ensures.kept.places

pub returns : goal.returns
returns g c = record { opened = rw (sym c.opening-opening.ensures.rows) c.in_ok-rows.ensures.opened }
