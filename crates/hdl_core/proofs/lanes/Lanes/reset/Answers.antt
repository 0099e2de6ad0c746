use Rattle.std.proofs.Common.{refl, ap, arith}
use Rattle.hdl_core.specs.declared.lane.Lane.{Lane}
use Rattle.hdl_core.proofs.HeldLanes.{inside, within, renewed}
use Rattle.hdl_core.proofs.lanes.Lanes.reset.Goals as goal

pub index_mut-requires : goal.index_mut-requires
index_mut-requires c =
    let lane = inside c.args.self.now c.self.inside.lanes.items c.self.inside.pool c.self.inside.slots c.args.lane c.self.view_is c.self.invariant.0 c.self.invariant.1 c.self.invariant.2 c.requires.there in
    omega (arith, lane, c.self.inside.lanes.ok.0)

pub drop_lane-requires : goal.drop_lane-requires
drop_lane-requires c = within c.args.self.now c.self.inside.lanes.items c.self.inside.pool c.self.inside.slots c.args.lane c.self.view_is c.self.invariant.0 c.self.invariant.1 c.self.invariant.2 c.requires.there

pub drop_lane-requires-2 : goal.drop_lane-requires-2
drop_lane-requires-2 c = within c.args.self.now c.self.inside.lanes.items c.self.inside.pool c.self.inside.slots c.args.lane c.self.view_is c.self.invariant.0 c.self.invariant.1 c.self.invariant.2 c.requires.there

pub returns : goal.returns
returns c = renewed c.args.self.now c.self.inside.lanes.items c.self.inside.pool c.self.inside.slots c.args.lane c.self.view_is c.self.invariant.0 c.self.invariant.1 c.self.invariant.2 c.requires.there c.index_mut.result.now (record { publisher = c.index_mut.result.now.publisher; is_open = c.args.is_open }) c.args.is_open c.drop_lane.new.self c.drop_lane-2.new.self (ap (λ (lane : Lane). lane.publisher) c.index_mut.ensures.value) refl c.drop_lane.ensures.lanes c.drop_lane-2.ensures.slots
