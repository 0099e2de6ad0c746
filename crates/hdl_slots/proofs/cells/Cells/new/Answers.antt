use Rattle.std.proofs.Common.{◌≡◌, arith}
use Rattle.hdl_slots.proofs.Table.{lane_added, new_is_table, new_is_empty}
use Rattle.hdl_slots.proofs.cells.Cells.new.Goals as goal

pub loop-lane-preserved : goal.loop-lane-preserved
loop-lane-preserved c =
    rw c.in_ok-push.ensures.items
    (lane_added c.loop-lane.slab c.lane_keys.new.slab c.loop-lane.keys.items c.loop-lane.lane c.in_ok-lane_keys.field-0 c.loop-lane.invariant
    c.in_ok-lane_keys.ensures.places c.in_ok-lane_keys.ensures.made c.lane_keys.ensures.kept)

pub invariant_of-result : goal.invariant_of-result
invariant_of-result c =
    let all : c.loop-lane.lane ≡ 64 = omega arith in
    new_is_table c.loop-lane.slab c.loop-lane.keys.items (rw all at c.loop-lane.invariant)

pub returns : goal.returns
returns c =
    let all : c.loop-lane.lane ≡ 64 = omega arith in
    new_is_empty c.loop-lane.slab c.loop-lane.keys.items (rw all at c.loop-lane.invariant)
