use Rattle.std.proofs.Common.{arith}
use Rattle.sqlite.specs.State.{HasCleanDisk}
use Rattle.sqlite.specs.Held.{state}
use Rattle.hdl_sqlrows.proofs.Filed.{went_on, keeps_filed}
use Rattle.hdl_sqlrows.proofs.Notes.{notes_opened}
use Rattle.hdl_sqlrows.proofs.opening.note.Goals as goal

pub returns-in_err-execute-clause-committed : goal.returns-in_err-execute-clause-committed
returns-in_err-execute-clause-committed g c = keeps_filed g.S.Store c.args.tx.now.conn.now c.execute.new.self.conn.now _ _ _ c.execute.ensures.ended c.execute.ensures.runs

pub returns-clause-committed : goal.returns-clause-committed
returns-clause-committed g c = keeps_filed g.S.Store c.args.tx.now.conn.now c.execute.new.self.conn.now _ _ _ c.execute.ensures.ended c.execute.ensures.runs

pub returns-clause-inside : goal.returns-clause-inside
returns-clause-inside g c clean =
    let old = state g.S.Store c.args.tx.now.conn.now in
    let new = state g.S.Store c.execute.new.self.conn.now in
    let late : HasCleanDisk old = omega (arith, clean, c.execute.ensures.survives.clean) in
    let ran = went_on old new _ _ _ c.in_ok-execute.ensures.ended (c.in_ok-execute.ensures.runs clean) in
    let up = ran.1.was_open in
    let did = notes_opened old new c.args.name.now _ (c.requires.inside late up) (rw (c.params-to_sql.ensures) at ran) in
    (up, did.0, did.1)

pub returns-clause-named : goal.returns-clause-named
returns-clause-named g c clean =
    let old = state g.S.Store c.args.tx.now.conn.now in
    let new = state g.S.Store c.execute.new.self.conn.now in
    let late : HasCleanDisk old = omega (arith, clean, c.execute.ensures.survives.clean) in
    let ran = went_on old new _ _ _ c.in_ok-execute.ensures.ended (c.in_ok-execute.ensures.runs clean) in
    let up = ran.1.was_open in
    (notes_opened old new c.args.name.now _ (c.requires.inside late up) (rw (c.params-to_sql.ensures) at ran)).3 (c.requires.named late up)

pub returns-clause-noted : goal.returns-clause-noted
returns-clause-noted g c clean =
    let old = state g.S.Store c.args.tx.now.conn.now in
    let new = state g.S.Store c.execute.new.self.conn.now in
    let late : HasCleanDisk old = omega (arith, clean, c.execute.ensures.survives.clean) in
    let ran = went_on old new _ _ _ c.in_ok-execute.ensures.ended (c.in_ok-execute.ensures.runs clean) in
    (notes_opened old new c.args.name.now _ (c.requires.inside late ran.1.was_open) (rw (c.params-to_sql.ensures) at ran)).2
