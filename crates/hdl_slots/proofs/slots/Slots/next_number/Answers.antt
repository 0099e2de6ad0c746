use Rattle.hdl_slots.proofs.Places.{lane_state, number_read}
use Rattle.hdl_slots.proofs.slots.Slots.next_number.Goals as goal

pub returns : goal.returns
returns c =
    let at = lane_state c.self.inside.numbers.items c.self.inside.cells c.args.lane c.self.invariant c.requires in
    let read = number_read c.self.inside.numbers.items c.self.inside.cells c.args.lane c.index.result.now c.self.invariant c.requires c.index.ensures in
    record { number = rw (← c.self.view_is, at) read }
