use Rattle.std.proofs.Common.{◌∙◌, ap, arith}
use Rattle.std.specs.FinSet as set
use Rattle.sqlite.specs.State.{HasCleanDisk}
use Rattle.sqlite.specs.Held.{state}
use Rattle.hdl_sqlrows.specs.Opening.{base_in}
use Rattle.hdl_sqlrows.proofs.Filed.{survives_both, keeps_both}
use Rattle.hdl_sqlrows.proofs.Firsts.{note_more}
use Rattle.hdl_sqlrows.proofs.opening.note_firsts.Goals as goal

pub loop-first-preserved : goal.loop-first-preserved
loop-first-preserved g c =
    let before = state g.S.Store c.args.tx.now.conn.now in
    let now = state g.S.Store c.loop-first.tx.conn.now in
    let next = state g.S.Store c.note_once.new.tx.conn.now in
    let inv = c.loop-first.invariant in
    let did = c.in_ok-note_once.ensures in
    let late = λ (clean : HasCleanDisk next). let r : HasCleanDisk now = omega (arith, clean, c.note_once.ensures.survives.clean) in r in
    record {
      same_reference = c.note_once.ensures.same_reference ∙ inv.same_reference;
      survives = survives_both before now next inv.survives c.note_once.ensures.survives;
      committed = keeps_both before now next c.note_once.ensures.survives inv.committed c.note_once.ensures.committed;
      up = λ clean _. (did.inside clean).1;
      inside = λ clean up. (did.inside clean).2;
      named = λ clean up. did.named clean;
      noted = λ clean up.
          note_more (base_in now.now.trees) (base_in next.now.trees) c.args.firsts.now c.loop-first.first-index c.first-item.result c.first-item.is c.loop-first-test.true (did.noted clean ∙ ap (λ h. record (base_in now.now.trees) { opened = set.insert (base_in now.now.trees).opened h }) c.canon.ensures)
          ∙ inv.noted (late clean) (did.inside clean).0;
    }
