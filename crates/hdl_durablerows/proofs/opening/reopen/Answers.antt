use Rattle.std.proofs.Common.{◌≡◌, ◌∙◌, sym, ap, subst, arith}
use Rattle.sqlite.specs.Effect.{Database}
use Rattle.sqlite.specs.State.{HasCleanDisk}
use Rattle.sqlite.specs.Held.{state}
use Rattle.hdl_rows.specs.Table.{IsPlaced}
use Rattle.hdl_sqlrows.specs.Stored.{table_in}
use Rattle.hdl_sqlrows.specs.Filed.{filed_table}
use Rattle.hdl_durablerows.proofs.opening.reopen.Goals as goal

pub open_rest-requires-clause-placed : goal.open_rest-requires-clause-placed
open_rest-requires-clause-placed g c clean up =
    let middle : HasCleanDisk (state g.S.Store c.are_opened.new.conn) = omega (arith, clean, c.prepare.ensures.survives.clean) in
    let early : HasCleanDisk (state g.S.Store c.args.conn.now) = omega (arith, middle, c.are_opened.ensures.survives.clean) in
    let looked = (c.in_ok-prepare.ensures.ok clean).1.0 in
    let kept = c.are_opened.ensures.kept middle looked.was_open in
    let same : filed_table (state g.S.Store c.prepare.new.self) ≡ g.R.Rows.content c.args.found = ap (λ (d : Database). table_in d.trees) (looked.committed_is ∙ kept.1) ∙ (c.requires.filed early).1 in
    subst IsPlaced (sym same) c.requires.placed
