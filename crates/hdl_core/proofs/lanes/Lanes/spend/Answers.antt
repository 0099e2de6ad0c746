use Rattle.hdl_slots.specs.Lanes.{spend_challenge}
use Rattle.hdl_core.proofs.HeldLanes.{within, rewritten}
use Rattle.hdl_core.proofs.lanes.Lanes.spend.Goals as goal

pub take-requires : goal.take-requires
take-requires c = within c.args.self.now c.self.inside.lanes.items c.self.inside.pool c.self.inside.slots c.args.lane c.self.view_is c.self.invariant.0 c.self.invariant.1 c.self.invariant.2 c.requires.there

pub returns : goal.returns
returns c = rewritten c.args.self.now c.self.inside.lanes.items c.self.inside.pool c.self.inside.slots c.args.lane c.self.view_is c.self.invariant.0 c.self.invariant.1 c.self.invariant.2 c.requires.there (λ s. spend_challenge s c.args.peer c.args.number) c.take.new.self c.take.ensures.slots
