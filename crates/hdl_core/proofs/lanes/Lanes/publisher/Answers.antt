use Rattle.std.proofs.Common.{◌∙◌, ap, arith}
use Rattle.hdl_core.specs.declared.lane.Lane.{Lane}
use Rattle.hdl_core.proofs.HeldLanes.{inside, publisher_is}
use Rattle.hdl_core.proofs.lanes.Lanes.publisher.Goals as goal

pub index-requires : goal.index-requires
index-requires c =
    let lane = inside c.args.self.now c.self.inside.lanes.items c.self.inside.pool c.self.inside.slots c.args.lane c.self.view_is c.self.invariant.0 c.self.invariant.1 c.self.invariant.2 c.requires.there in
    omega (arith, lane, c.self.inside.lanes.ok.0)

pub returns : goal.returns
returns c = ap (λ (lane : Lane). lane.publisher) c.index.ensures ∙ publisher_is c.args.self.now c.self.inside.lanes.items c.self.inside.pool c.self.inside.slots c.args.lane c.self.view_is c.self.invariant.0 c.self.invariant.1 c.self.invariant.2 c.requires.there c.index.result.now
