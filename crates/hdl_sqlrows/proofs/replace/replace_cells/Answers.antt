use Rattle.std.proofs.Common.{◌<◌, ◌^◌, arith}
use Rattle.sqlite.specs.State.{HasCleanDisk}
use Rattle.sqlite.specs.Held.{state}
use Rattle.hdl_sqlrows.proofs.Filed.{went_on, keeps_filed}
use Rattle.hdl_sqlrows.proofs.Updates.{replaces_entry, update_beside}
use Rattle.hdl_sqlrows.proofs.replace.replace_cells.Goals as goal

pub returns-in_err-execute-clause-committed : goal.returns-in_err-execute-clause-committed
returns-in_err-execute-clause-committed g c = keeps_filed g.S.Store c.args.tx.now.conn.now c.execute.new.self.conn.now _ _ _ c.execute.ensures.ended c.execute.ensures.runs

pub returns-clause-committed : goal.returns-clause-committed
returns-clause-committed g c = keeps_filed g.S.Store c.args.tx.now.conn.now c.execute.new.self.conn.now _ _ _ c.execute.ensures.ended c.execute.ensures.runs

pub returns-clause-put : goal.returns-clause-put
returns-clause-put g c clean =
    let old = state g.S.Store c.args.tx.now.conn.now in
    let new = state g.S.Store c.execute.new.self.conn.now in
    let timestamp : c.args.value.now.timestamp < 2 ^ 64 = omega arith in
    let late : HasCleanDisk old = omega (arith, clean, c.execute.ensures.survives.clean) in
    let ran = went_on old new _ _ _ c.in_ok-execute.ensures.ended (c.in_ok-execute.ensures.runs clean) in
    let up = ran.1.was_open in
    (up, replaces_entry old new c.args.name.now c.args.value.now _ (c.requires.inside late up) timestamp c.requires.short (c.requires.there late up) (rw (c.params-to_sql.ensures, c.params-to_sql-2.ensures, c.params-to_sql-3.ensures, c.params-to_sql-4.ensures, c.params-to_sql-5.ensures, c.params-to_sql-6.ensures, c.params-to_sql-7.ensures, c.params-to_sql-8.ensures, c.as_slice.ensures, c.as_slice-2.ensures, c.as_slice-3.ensures, c.as_slice-4.ensures, c.to_be_bytes-timestamp.ensures, c.from.ensures, c.requires.spelt) at ran))

pub returns-clause-beside : goal.returns-clause-beside
returns-clause-beside g c clean =
    let old = state g.S.Store c.args.tx.now.conn.now in
    let new = state g.S.Store c.execute.new.self.conn.now in
    let late : HasCleanDisk old = omega (arith, clean, c.execute.ensures.survives.clean) in
    let ran = went_on old new _ _ _ c.in_ok-execute.ensures.ended (c.in_ok-execute.ensures.runs clean) in
    let up = ran.1.was_open in
    update_beside old new c.args.name.now c.args.value.now _ (c.requires.inside late up) (c.requires.there late up) (rw (c.params-to_sql.ensures, c.params-to_sql-2.ensures, c.params-to_sql-3.ensures, c.params-to_sql-4.ensures, c.params-to_sql-5.ensures, c.params-to_sql-6.ensures, c.params-to_sql-7.ensures, c.params-to_sql-8.ensures, c.as_slice.ensures, c.as_slice-2.ensures, c.as_slice-3.ensures, c.as_slice-4.ensures, c.to_be_bytes-timestamp.ensures, c.from.ensures, c.requires.spelt) at ran)
