use Rattle.std.proofs.Common.{◌∙◌, not, ap, arith}
use Rattle.std.specs.FinSet as set
use Rattle.sqlite.specs.State.{HasCleanDisk}
use Rattle.sqlite.specs.Held.{state}
use Rattle.hdl_sqlrows.specs.Opening.{First, handle, base_in}
use Rattle.hdl_sqlrows.proofs.Filed.{survives_both, keeps_both}
use Rattle.hdl_sqlrows.proofs.Looks.{looks_on}
use Rattle.hdl_sqlrows.proofs.Firsts.{keep_more}
use Rattle.hdl_sqlrows.proofs.opening.unopened_of.Goals as goal

pub loop-first-preserved : goal.loop-first-preserved
loop-first-preserved g c =
    let before = state g.S.Store c.args.tx.now.conn.now in
    let now = state g.S.Store c.loop-first.tx.conn.now in
    let next = state g.S.Store c.was_opened.new.tx.conn.now in
    let inv = c.loop-first.invariant in
    let did = c.in_ok-is_out.ensures in
    let late = λ (clean : HasCleanDisk next). let r : HasCleanDisk now = omega (arith, clean, c.was_opened.ensures.survives.clean) in r in
    record {
      same_reference = c.was_opened.ensures.same_reference ∙ inv.same_reference;
      survives = survives_both before now next inv.survives c.was_opened.ensures.survives;
      committed = keeps_both before now next c.was_opened.ensures.survives inv.committed c.was_opened.ensures.committed;
      same = λ clean was. looks_on before now next (inv.same (late clean) was) (did.same clean);
      found = λ clean was.
          let looks = inv.same (late clean) was in
          let test = ap not (did.found clean ∙ (λ k. set.contains (base_in (looks.now k).trees).opened (c.canon.ensures k))) in
          keep_more (λ (x : First). not (set.contains (base_in before.now.trees).opened (handle x))) c.args.opening.now c.loop-first.first-index c.first-item.result c.in_ok-is_out.is_out _ _ c.first-item.is c.loop-first-test.true test (inv.found (late clean) was) c.in_ok-push_unless.ensures;
    }
