use Rattle.std.proofs.Common.{arith}
use Rattle.sqlite.specs.State.{HasCleanDisk}
use Rattle.sqlite.specs.Held.{state}
use Rattle.hdl_sqlrows.proofs.Filed.{went_on, keeps_filed}
use Rattle.hdl_sqlrows.proofs.Made.{makes_opened, none_opened}
use Rattle.hdl_sqlrows.proofs.layout.make_opened.Goals as goal

pub returns-in_err-execute-clause-committed : goal.returns-in_err-execute-clause-committed
returns-in_err-execute-clause-committed g c = keeps_filed g.S.Store c.args.tx.now.conn.now c.execute.new.self.conn.now _ _ _ c.execute.ensures.ended c.execute.ensures.runs

pub returns-clause-committed : goal.returns-clause-committed
returns-clause-committed g c = keeps_filed g.S.Store c.args.tx.now.conn.now c.execute.new.self.conn.now _ _ _ c.execute.ensures.ended c.execute.ensures.runs

pub returns-clause-made : goal.returns-clause-made
returns-clause-made g c clean =
    let old = state g.S.Store c.args.tx.now.conn.now in
    let new = state g.S.Store c.execute.new.self.conn.now in
    let late : HasCleanDisk old = omega (arith, clean, c.execute.ensures.survives.clean) in
    let ran = went_on old new _ _ _ c.in_ok-execute.ensures.ended (c.in_ok-execute.ensures.runs clean) in
    let up = ran.1.was_open in
    (up, makes_opened old new _ (c.requires.made late up) (c.requires.no_handle late up) (c.requires.no_entry late up) ran)

pub returns-clause-none_opened : goal.returns-clause-none_opened
returns-clause-none_opened g c clean =
    let old = state g.S.Store c.args.tx.now.conn.now in
    let new = state g.S.Store c.execute.new.self.conn.now in
    let late : HasCleanDisk old = omega (arith, clean, c.execute.ensures.survives.clean) in
    let ran = went_on old new _ _ _ c.in_ok-execute.ensures.ended (c.in_ok-execute.ensures.runs clean) in
    none_opened old new _ (c.requires.made late ran.1.was_open) ran
