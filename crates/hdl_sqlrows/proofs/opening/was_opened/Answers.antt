use Rattle.std.proofs.Common.{ap, not, ◌∙◌, ◌≡◌, ◌==◌, length, rules, arith}
use Rattle.sqlite.specs.State.{HasCleanDisk}
use Rattle.sqlite.specs.Held.{state}
use Rattle.hdl_sqlrows.proofs.Texts.{opened_plain}
use Rattle.hdl_sqlrows.proofs.Answered.{shown_opened}
use Rattle.hdl_sqlrows.proofs.Looks.{looked, only_looks, look_fails}
use Rattle.hdl_sqlrows.proofs.opening.was_opened.Goals as goal

pub returns-in_err-rows-clause-committed : goal.returns-in_err-rows-clause-committed
returns-in_err-rows-clause-committed g c clean up = look_fails (state g.S.Store c.args.tx.now.conn.now) (state g.S.Store c.query_all.new.self.conn.now) _ _ _ up (c.in_err-rows.ensures.err clean)

pub returns-clause-committed : goal.returns-clause-committed
returns-clause-committed g c clean up =
    let old = state g.S.Store c.args.tx.now.conn.now in
    let new = state g.S.Store c.query_all.new.self.conn.now in
    let late : HasCleanDisk old = omega (arith, clean, c.query_all.ensures.survives.clean) in
    let same = looked old new _ _ c.in_ok-rows.rows.items opened_plain.1 (c.requires.inside late) (rw (c.params-to_sql.ensures) at c.in_ok-rows.ensures.ok clean) in
    (same.0.was_open, same.0.committed_is)

pub returns-clause-same : goal.returns-clause-same
returns-clause-same g c clean =
    let old = state g.S.Store c.args.tx.now.conn.now in
    let new = state g.S.Store c.query_all.new.self.conn.now in
    let late : HasCleanDisk old = omega (arith, clean, c.query_all.ensures.survives.clean) in
    only_looks old new (looked old new _ _ c.in_ok-rows.rows.items opened_plain.1 (c.requires.inside late) (rw (c.params-to_sql.ensures) at c.in_ok-rows.ensures.ok clean))

pub returns-clause-found : goal.returns-clause-found
returns-clause-found g c clean =
    let old = state g.S.Store c.args.tx.now.conn.now in
    let new = state g.S.Store c.query_all.new.self.conn.now in
    let late : HasCleanDisk old = omega (arith, clean, c.query_all.ensures.survives.clean) in
    let shown = rw (c.params-to_sql.ensures) at c.in_ok-rows.ensures.ok clean in
    let same = looked old new _ _ c.in_ok-rows.rows.items opened_plain.1 (c.requires.inside late) shown in
    let inside = c.requires.inside late same.0.was_open in
    let len : c.in_ok-rows.rows.len ≡ length c.in_ok-rows.rows.items = search rules in
    ap not c.is_empty.ensures ∙ ap (λ n. not (n == 0)) len ∙ shown_opened old new c.args.name.now c.in_ok-rows.rows.items inside.whole (c.requires.named late same.0.was_open) shown
