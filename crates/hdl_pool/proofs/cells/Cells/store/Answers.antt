use Rattle.std.proofs.Common.{◌≡◌, ◌-◌, ◌∙◌, sym, arith, false, true, is_some}
use Rattle.hdl_pool.proofs.CellLemmas.{IsStoring-more, storing_kept, storing_displaced}
use Rattle.hdl_pool.proofs.cells.Cells.store.Goals as goal
use Rattle.hdl_pool.proofs.cells.Cells.store.Goals.{then-loop-place-test+else-is_some, else-loop-place-test}

pub loop-place-preserved : goal.loop-place-preserved
loop-place-preserved c =
    IsStoring-more c.args.self.now c.args.lane c.args.first c.loop-place.self c.replace-carried.new.self c.loop-place.place (c.loop-place.place - 1) c.loop-place.carried c.replace-carried.result c.requires.lane c.requires.fours c.loop-place.invariant
    (omega arith) (sym c.is_some.ensures ∙ c.if-is_some.true) c.replace-carried.ensures.was c.replace-carried.ensures.cells

pub returns-then-is_some-2-clause-fate : goal.returns-then-is_some-2-clause-fate
returns-then-is_some-2-clause-fate c =
    let some : is_some c.loop-place.carried ≡ true = sym c.is_some-2.ensures ∙ c.if-is_some-2.true in
    elim c.loop-place-test.branch [
      | then-loop-place-test+else-is_some w ↦ absurd (let none : is_some c.loop-place.carried ≡ false = sym w.is_some.ensures ∙ w.if-is_some.false in cc)
      | else-loop-place-test w ↦ (storing_displaced c.args.self.now c.loop-place.self c.args.lane c.loop-place.place c.args.first c.loop-place.carried c.requires.lane c.requires.fours c.loop-place.invariant some (omega arith)).0
    ]

pub returns-then-is_some-2-clause-lanes : goal.returns-then-is_some-2-clause-lanes
returns-then-is_some-2-clause-lanes c =
    let some : is_some c.loop-place.carried ≡ true = sym c.is_some-2.ensures ∙ c.if-is_some-2.true in
    elim c.loop-place-test.branch [
      | then-loop-place-test+else-is_some w ↦ absurd (let none : is_some c.loop-place.carried ≡ false = sym w.is_some.ensures ∙ w.if-is_some.false in cc)
      | else-loop-place-test w ↦ (storing_displaced c.args.self.now c.loop-place.self c.args.lane c.loop-place.place c.args.first c.loop-place.carried c.requires.lane c.requires.fours c.loop-place.invariant some (omega arith)).1
    ]

pub returns-clause-fate : goal.returns-clause-fate
returns-clause-fate c = (storing_kept c.args.self.now c.loop-place.self c.args.lane c.loop-place.place c.args.first c.loop-place.carried c.requires.lane c.requires.fours c.loop-place.invariant (sym c.is_some-2.ensures ∙ c.if-is_some-2.false)).0

pub returns-clause-lanes : goal.returns-clause-lanes
returns-clause-lanes c = (storing_kept c.args.self.now c.loop-place.self c.args.lane c.loop-place.place c.args.first c.loop-place.carried c.requires.lane c.requires.fours c.loop-place.invariant (sym c.is_some-2.ensures ∙ c.if-is_some-2.false)).1

pub returns-clause-fours : goal.returns-clause-fours
returns-clause-fours c = (storing_kept c.args.self.now c.loop-place.self c.args.lane c.loop-place.place c.args.first c.loop-place.carried c.requires.lane c.requires.fours c.loop-place.invariant (sym c.is_some-2.ensures ∙ c.if-is_some-2.false)).2
