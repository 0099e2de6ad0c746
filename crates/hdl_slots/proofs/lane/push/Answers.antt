use Rattle.std.proofs.Common.{◌≡◌, ◌-◌, ◌+◌, true, is_some, sym, ◌∙◌, arith}
use Rattle.std.proofs.lemmas.Bool.{false≢true}
use Rattle.hdl_slots.proofs.Places.{moving_on, moving_end}
use Rattle.hdl_slots.proofs.lane.push.Goals as goal
use Rattle.hdl_slots.proofs.lane.push.Goals.{then-loop-place-test+else-is_some, else-loop-place-test}

pub loop-place-preserved : goal.loop-place-preserved
loop-place-preserved c =
    let is : c.loop-place.place ≡ c.loop-place.place - 1 + 1 = omega arith in
    let some : is_some c.loop-place.moved ≡ true = sym c.is_some.ensures ∙ c.if-is_some.true in (
      rw c.replace-moved.ensures.was
          (moving_on c.args.cells.now c.loop-place.cells c.replace-moved.new.self c.args.lane c.args.challenge c.loop-place.place (c.loop-place.place - 1) c.loop-place.moved
          c.loop-place.invariant.0 some is c.loop-place.invariant.1 c.replace-moved.ensures.cells),
      omega arith,
    )

pub returns : goal.returns
returns c =
    moving_end c.args.cells.now c.loop-place.cells c.args.lane c.args.challenge c.loop-place.place c.loop-place.moved c.loop-place.invariant.0
    (λ some. elim c.loop-place-test.branch [
      | then-loop-place-test+else-is_some w ↦ absurd (false≢true (sym w.if-is_some.false ∙ w.is_some.ensures ∙ some))
      | else-loop-place-test w ↦ omega arith
    ])
