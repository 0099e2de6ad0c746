use Rattle.std.proofs.Common.{◌∙◌, sym, arith}
use Rattle.sqlite.specs.State.{HasCleanDisk}
use Rattle.sqlite.specs.Held.{state}
use Rattle.hdl_sqlrows.proofs.Looks.{there_already}
use Rattle.hdl_sqlrows.proofs.opening.put_missing.Goals as goal

pub returns-then-branch-clause-put : goal.returns-then-branch-clause-put
returns-then-branch-clause-put g c clean =
    let old = state g.S.Store c.args.tx.now.conn.now in
    let new = state g.S.Store c.is_there.new.tx.conn.now in
    let late : HasCleanDisk old = omega (arith, clean, c.is_there.ensures.survives.clean) in
    let looks = c.in_ok-is_there.ensures.same clean in
    (looks.was_open, there_already old new c.args.name.now (c.requires.inside late looks.was_open) looks (sym (c.in_ok-is_there.ensures.found clean) ∙ c.if-branch.true))
