use Rattle.std.proofs.Common.{◌∙◌, not, ap, arith}
use Rattle.sqlite.specs.State.{HasCleanDisk}
use Rattle.sqlite.specs.Held.{state}
use Rattle.hdl_rows.specs.Table.{has}
use Rattle.hdl_sqlrows.specs.Stored.{table_in}
use Rattle.hdl_sqlrows.specs.Filed.{draft_table}
use Rattle.hdl_sqlrows.specs.Opening.{First, handle}
use Rattle.hdl_sqlrows.proofs.Filed.{survives_both, keeps_both}
use Rattle.hdl_sqlrows.proofs.Looks.{looks_on}
use Rattle.hdl_sqlrows.proofs.Firsts.{keep_next}
use Rattle.hdl_sqlrows.proofs.opening.absent_of.Goals as goal

pub loop-first-preserved : goal.loop-first-preserved
loop-first-preserved g c =
    let before = state g.S.Store c.args.tx.now.conn.now in
    let now = state g.S.Store c.loop-first.tx.conn.now in
    let next = state g.S.Store c.is_there.new.tx.conn.now in
    let inv = c.loop-first.invariant in
    let did = c.in_ok-is_out.ensures in
    let late = λ (clean : HasCleanDisk next). let r : HasCleanDisk now = omega (arith, clean, c.is_there.ensures.survives.clean) in r in
    record {
      same_reference = c.is_there.ensures.same_reference ∙ inv.same_reference;
      survives = survives_both before now next inv.survives c.is_there.ensures.survives;
      committed = keeps_both before now next c.is_there.ensures.survives inv.committed c.is_there.ensures.committed;
      same = λ clean was. looks_on before now next (inv.same (late clean) was) (did.same clean);
      found = λ clean was.
          let looks = inv.same (late clean) was in
          let test = ap not (did.found clean ∙ (λ k. has (table_in (looks.now k).trees) (c.canon.ensures k))) in
          keep_next (λ (x : First). not (has (draft_table before) (handle x))) c.args.opening.now c.loop-first.first-index c.first-item.result c.in_ok-is_out.is_out _ _ c.first-item.is c.loop-first-test.true test (inv.found (late clean) was) c.in_ok-push_unless.ensures;
    }
