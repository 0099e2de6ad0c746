use Rattle.std.proofs.Common.{◌∙◌, ap}
use Rattle.hdl_slots.specs.Lanes as slots
use Rattle.hdl_core.proofs.HeldLanes.{within, challenges_are}
use Rattle.hdl_core.proofs.lanes.Lanes.next_number.Goals as goal

pub next_number-requires : goal.next_number-requires
next_number-requires c = within c.args.self.now c.self.inside.lanes.items c.self.inside.pool c.self.inside.slots c.args.lane c.self.view_is c.self.invariant.0 c.self.invariant.1 c.self.invariant.2 c.requires.there

pub returns : goal.returns
returns c = c.next_number.ensures.number ∙ ap (λ (s : slots.LaneState). s.next) (challenges_are c.args.self.now c.self.inside.lanes.items c.self.inside.pool c.self.inside.slots c.args.lane c.self.view_is c.self.invariant.0 c.self.invariant.1 c.self.invariant.2 c.requires.there)
