use Rattle.std.proofs.Common.{◌∙◌, sym, ap}
use Rattle.sqlite.specs.Effect.{Database}
use Rattle.sqlite.specs.Held.{state}
use Rattle.hdl_sqlrows.specs.Opening.{base_in}
use Rattle.hdl_value.proofs.Places.{insert_member}
use Rattle.hdl_sqlrows.proofs.opening.note_once.Goals as goal

pub returns-then-branch-clause-noted : goal.returns-then-branch-clause-noted
returns-then-branch-clause-noted g c clean =
    let old = state g.S.Store c.args.tx.now.conn.now in
    let looks = c.in_ok-was_opened.ensures.same clean in
    ap (λ (d : Database). base_in d.trees) looks.now
    ∙ sym (λ i. record (base_in old.now.trees) { opened = insert_member (base_in old.now.trees).opened c.args.name.now (sym (c.in_ok-was_opened.ensures.found clean) ∙ c.if-branch.true) i })
