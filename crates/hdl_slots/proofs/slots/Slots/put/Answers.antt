use Rattle.hdl_slots.specs.Places.{places_of, contents}
use Rattle.hdl_slots.proofs.Lanes.{differ_challenged}
use Rattle.hdl_slots.proofs.Places.{lane_state, number_read, becomes_then, states_become, lanes_kept}
use Rattle.hdl_slots.proofs.slots.Slots.put.Goals as goal

pub returns-clause-number : goal.returns-clause-number
returns-clause-number c =
    let at = lane_state c.self.inside.numbers.items c.self.inside.cells c.args.lane c.self.invariant c.requires in
    let read = number_read c.self.inside.numbers.items c.self.inside.cells c.args.lane c.index-number.result.now c.self.invariant c.requires c.index-number.ensures in
    rw (← c.self.view_is, at) read

pub returns-clause-slots : goal.returns-clause-slots
returns-clause-slots c =
    let at = lane_state c.self.inside.numbers.items c.self.inside.cells c.args.lane c.self.invariant c.requires in
    let read = number_read c.self.inside.numbers.items c.self.inside.cells c.args.lane c.index-number.result.now c.self.invariant c.requires c.index-number.ensures in
    let pushed = rw c.forget.ensures.lane_is at c.push.ensures in
    rw (← c.self.view_is, at, ← read, c.next_after.ensures)
    (states_become c.self.inside.numbers.items c.self.inside.cells c.push.new.cells c.args.lane _ _ (becomes_then _ c.forget.new.cells _ c.args.lane _ _ c.forget.ensures pushed))

pub invariant_of-self : goal.invariant_of-self
invariant_of-self c =
    let pushed = rw c.forget.ensures.lane_is at c.push.ensures in
    lanes_kept c.self.inside.numbers.items c.self.inside.cells c.push.new.cells c.args.lane c.next_after.result _ (becomes_then _ c.forget.new.cells _ c.args.lane _ _ c.forget.ensures pushed)
    c.self.invariant
    (differ_challenged (contents (places_of c.self.inside.cells c.args.lane)) record { number = c.index-number.result.now; pending = c.args.pending } (c.self.invariant.each c.args.lane c.requires).differ)
