use Rattle.hdl_slots.proofs.Places.{states_become}
use Rattle.hdl_slots.proofs.slots.Slots.drop_lane.Goals as goal

pub returns : goal.returns
returns c =
    record { slots = rw (← c.self.view_is) (states_become c.self.inside.numbers.items c.self.inside.cells c.clear.new.cells c.args.lane 1 _ c.clear.ensures) }
