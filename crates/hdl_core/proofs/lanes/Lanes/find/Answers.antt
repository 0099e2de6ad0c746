use Rattle.std.proofs.Common.{◌∙◌, ap}
use Rattle.hdl_slots.specs.Lanes as slots
use Rattle.hdl_slots.specs.Lanes.{challenge_of}
use Rattle.hdl_core.proofs.HeldLanes.{within, challenges_are}
use Rattle.hdl_core.proofs.lanes.Lanes.find.Goals as goal

pub find-requires : goal.find-requires
find-requires c = within c.args.self.now c.self.inside.lanes.items c.self.inside.pool c.self.inside.slots c.args.lane c.self.view_is c.self.invariant.0 c.self.invariant.1 c.self.invariant.2 c.requires.there

pub returns : goal.returns
returns c = c.find.ensures.found ∙ ap (λ (s : slots.LaneState). challenge_of s.challenges c.args.peer c.args.number) (challenges_are c.args.self.now c.self.inside.lanes.items c.self.inside.pool c.self.inside.slots c.args.lane c.self.view_is c.self.invariant.0 c.self.invariant.1 c.self.invariant.2 c.requires.there)
