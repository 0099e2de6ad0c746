use Rattle.hdl_pool.specs.Partial.{key_of}
use Rattle.hdl_pool.specs.Taking.{free_partial}
use Rattle.hdl_core.proofs.HeldLanes.{within, repooled}
use Rattle.hdl_core.proofs.lanes.Lanes.free.Goals as goal

pub free-requires : goal.free-requires
free-requires c = within c.args.self.now c.self.inside.lanes.items c.self.inside.pool c.self.inside.slots c.args.lane c.self.view_is c.self.invariant.0 c.self.invariant.1 c.self.invariant.2 c.requires.there

pub returns : goal.returns
returns c = repooled c.args.self.now c.self.inside.lanes.items c.self.inside.pool c.self.inside.slots c.args.lane c.self.view_is c.self.invariant.0 c.self.invariant.1 c.self.invariant.2 c.requires.there (λ partials. free_partial partials (key_of c.args.peer c.args.envelope.now)) c.free.new.self c.free.ensures.lanes
