use Rattle.hdl_sqlrows.proofs.States.{failed_query}
use Rattle.hdl_sqlrows.proofs.Texts.{heads_plain}
use Rattle.hdl_sqlrows.proofs.Asked.{answered_query}
use Rattle.hdl_sqlrows.proofs.HeadRows.{heads_found}
use Rattle.hdl_sqlrows.proofs.heads.rows_of_heads.Goals as goal

pub returns-in_err-query_all-clause-settled : goal.returns-in_err-query_all-clause-settled
returns-in_err-query_all-clause-settled c = (failed_query c.args.conn.now c.query_all.new.self _ _ _ c.requires c.in_err-query_all.ensures.err).0

pub returns-in_err-query_all-clause-same : goal.returns-in_err-query_all-clause-same
returns-in_err-query_all-clause-same c = (failed_query c.args.conn.now c.query_all.new.self _ _ _ c.requires c.in_err-query_all.ensures.err).1

pub returns-clause-settled : goal.returns-clause-settled
returns-clause-settled c = (answered_query c.args.conn.now c.query_all.new.self _ _ c.in_ok-query_all.field-0.items heads_plain.0 c.requires (rw (c.params-to_sql.ensures) at c.in_ok-query_all.ensures.ok)).0

pub returns-clause-same : goal.returns-clause-same
returns-clause-same c = (answered_query c.args.conn.now c.query_all.new.self _ _ c.in_ok-query_all.field-0.items heads_plain.0 c.requires (rw (c.params-to_sql.ensures) at c.in_ok-query_all.ensures.ok)).1

pub returns-clause-found : goal.returns-clause-found
returns-clause-found c = (heads_found c.args.conn.now c.query_all.new.self c.args.name.now c.in_ok-query_all.field-0.items c.requires (rw (c.params-to_sql.ensures) at c.in_ok-query_all.ensures.ok)).found

pub returns-clause-by_index : goal.returns-clause-by_index
returns-clause-by_index c = (heads_found c.args.conn.now c.query_all.new.self c.args.name.now c.in_ok-query_all.field-0.items c.requires (rw (c.params-to_sql.ensures) at c.in_ok-query_all.ensures.ok)).by_index
