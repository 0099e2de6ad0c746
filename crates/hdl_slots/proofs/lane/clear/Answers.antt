use Rattle.hdl_slots.proofs.Places.{emptied_on}
use Rattle.hdl_slots.proofs.lane.clear.Goals as goal

pub loop-place-preserved : goal.loop-place-preserved
loop-place-preserved c =
    emptied_on c.args.cells.now c.loop-place.cells c.replace.new.self c.args.lane c.loop-place.place c.loop-place.invariant.0 c.loop-place.invariant.1 c.loop-place.invariant.2
    c.loop-place-test.true c.replace.ensures.cells
