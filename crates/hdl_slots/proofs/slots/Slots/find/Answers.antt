use Rattle.hdl_slots.proofs.Places.{lane_state}
use Rattle.hdl_slots.proofs.slots.Slots.find.Goals as goal

pub returns : goal.returns
returns c =
    let at = lane_state c.self.inside.numbers.items c.self.inside.cells c.args.lane c.self.invariant c.requires in
    record { found = rw (← c.self.view_is, at) c.find.ensures }
