use Rattle.std.proofs.Common.{◌+◌, arith}
use Rattle.hdl_tenants.specs.Register.{IsPublisher}
use Rattle.hdl_tenants.proofs.Lanes.{All-at, first_lane-more, first_lane-within}
use Rattle.hdl_tenants.proofs.text.Tenants.lanes_of.Goals as goal

pub overflow_add-result : goal.overflow_add-result
overflow_add-result c =
    let ps = c.self.inside.publishers in
    omega (arith, first_lane-more ps c.args.place _ c.in_ok-lanes.ensures, c.in_ok-first.ensures.found.1, first_lane-within ps (c.args.place + 1), c.self.invariant.lanes)

pub overflow_sub-result : goal.overflow_sub-result
overflow_sub-result c = omega (arith, (All-at IsPublisher c.self.inside.publishers c.args.place _ c.self.invariant.publishers c.in_ok-lanes.ensures).lanes.0)

pub returns-clause-last : goal.returns-clause-last
returns-clause-last c =
    let ps = c.self.inside.publishers in
    let p = All-at IsPublisher ps c.args.place _ c.self.invariant.publishers c.in_ok-lanes.ensures in
    rw (← c.self.view_is) (omega (arith, p.lanes.0, first_lane-more ps c.args.place _ c.in_ok-lanes.ensures, c.in_ok-first.ensures.found.1))
