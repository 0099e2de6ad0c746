use Rattle.std.proofs.Common.{◌∙◌, arith}
use Rattle.sqlite.specs.State.{HasCleanDisk}
use Rattle.sqlite.specs.Held.{state}
use Rattle.hdl_sqlrows.specs.Filed.{draft_table}
use Rattle.hdl_sqlrows.proofs.Updates.{replace_more, next_present}
use Rattle.hdl_sqlrows.proofs.Filed.{survives_both, keeps_both}
use Rattle.hdl_sqlrows.proofs.replace.replace_entries.Goals as goal

pub replace_entry-requires-clause-there : goal.replace_entry-requires-clause-there
replace_entry-requires-clause-there g c clean up =
    next_present (draft_table (state g.S.Store c.loop-value.tx.conn.now)) c.args.name.now c.args.values.now c.loop-value.value-index c.value-item.result c.value-item.is c.loop-value-test.true (c.loop-value.invariant.there clean up)

pub loop-value-preserved : goal.loop-value-preserved
loop-value-preserved g c =
    let first = state g.S.Store c.args.tx.now.conn.now in
    let now = state g.S.Store c.loop-value.tx.conn.now in
    let next = state g.S.Store c.replace_entry.new.tx.conn.now in
    let inv = c.loop-value.invariant in
    let put = c.in_ok-replace_entry.ensures.put in
    let late = λ (clean : HasCleanDisk next). let r : HasCleanDisk now = omega (arith, clean, c.replace_entry.ensures.survives.clean) in r in
    let more = λ (clean : HasCleanDisk next).
    replace_more (draft_table now) (draft_table next) c.args.name.now c.args.values.now c.loop-value.value-index c.value-item.result c.value-item.is c.loop-value-test.true (inv.there (late clean) (put clean).0) (put clean).1.2 in
    record {
      same_reference = c.replace_entry.ensures.same_reference ∙ inv.same_reference;
      survives = survives_both first now next inv.survives c.replace_entry.ensures.survives;
      committed = keeps_both first now next c.replace_entry.ensures.survives inv.committed c.replace_entry.ensures.committed;
      up = λ clean _. (put clean).1.0;
      inside = λ clean up. (put clean).1.1;
      there = λ clean up. (more clean).0;
      put = λ clean up. (more clean).1 ∙ inv.put (late clean) (put clean).0;
      beside = λ clean. c.in_ok-replace_entry.ensures.beside clean ∙ inv.beside (late clean);
    }
