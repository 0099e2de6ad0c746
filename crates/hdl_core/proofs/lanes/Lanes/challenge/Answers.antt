use Rattle.hdl_slots.specs.Lanes.{add_challenge}
use Rattle.hdl_core.proofs.HeldLanes.{within, rewritten}
use Rattle.hdl_core.proofs.lanes.Lanes.challenge.Goals as goal

pub put-requires : goal.put-requires
put-requires c = within c.args.self.now c.self.inside.lanes.items c.self.inside.pool c.self.inside.slots c.args.lane c.self.view_is c.self.invariant.0 c.self.invariant.1 c.self.invariant.2 c.requires.there

pub returns : goal.returns
returns c = rewritten c.args.self.now c.self.inside.lanes.items c.self.inside.pool c.self.inside.slots c.args.lane c.self.view_is c.self.invariant.0 c.self.invariant.1 c.self.invariant.2 c.requires.there (λ s. add_challenge s c.args.pending) c.put.new.self c.put.ensures.slots
