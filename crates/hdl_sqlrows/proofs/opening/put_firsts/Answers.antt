use Rattle.std.proofs.Common.{◌∙◌, subst, arith}
use Rattle.sqlite.specs.State.{HasCleanDisk}
use Rattle.sqlite.specs.Held.{state}
use Rattle.hdl_sqlrows.specs.Filed.{draft_table}
use Rattle.hdl_sqlrows.specs.Opening.{AreFree}
use Rattle.hdl_sqlrows.proofs.Filed.{survives_both, keeps_both}
use Rattle.hdl_sqlrows.proofs.Firsts.{first_of, put_more}
use Rattle.hdl_sqlrows.proofs.opening.put_firsts.Goals as goal

pub put_first-requires-clause-free : goal.put_first-requires-clause-free
put_first-requires-clause-free g c clean up =
    let now = state g.S.Store c.loop-first.tx.conn.now in
    (subst (AreFree (draft_table now)) (first_of c.args.firsts.now c.loop-first.first-index c.first-item.result c.first-item.is c.loop-first-test.true) (c.loop-first.invariant.free clean up)).0

pub loop-first-preserved : goal.loop-first-preserved
loop-first-preserved g c =
    let before = state g.S.Store c.args.tx.now.conn.now in
    let now = state g.S.Store c.loop-first.tx.conn.now in
    let next = state g.S.Store c.put_first.new.tx.conn.now in
    let inv = c.loop-first.invariant in
    let put = c.in_ok-put_first.ensures.put in
    let late = λ (clean : HasCleanDisk next). let r : HasCleanDisk now = omega (arith, clean, c.put_first.ensures.survives.clean) in r in
    let more = λ (clean : HasCleanDisk next).
    put_more (draft_table now) (draft_table next) c.args.firsts.now c.loop-first.first-index c.first-item.result c.first-item.is c.loop-first-test.true (inv.free (late clean) (put clean).0) (put clean).1.2 in
    record {
      same_reference = c.put_first.ensures.same_reference ∙ inv.same_reference;
      survives = survives_both before now next inv.survives c.put_first.ensures.survives;
      committed = keeps_both before now next c.put_first.ensures.survives inv.committed c.put_first.ensures.committed;
      up = λ clean _. (put clean).1.0;
      inside = λ clean up. (put clean).1.1;
      free = λ clean up. (more clean).0;
      put = λ clean up. (more clean).1 ∙ inv.put (late clean) (put clean).0;
      beside = λ clean. c.in_ok-put_first.ensures.beside clean ∙ inv.beside (late clean);
    }
