use Rattle.std.proofs.Common.{◌≡◌, Some, None, rules}
use Rattle.hdl_site.specs.Info.{server_at}
use Rattle.hdl_site.proofs.Loops.{begins, goes_on, stops, ends}
use Rattle.hdl_site.proofs.reading.servers_in.Goals as goal

pub loop-init : goal.loop-init
loop-init c = rw c.new-servers.ensures.items (begins server_at c.args.count c.args.octets.now)

pub loop-preserved : goal.loop-preserved
loop-preserved c =
    let one : server_at c.loop.rest.now ≡ Some (c.in-Some.server, c.in-Some.after.now) = search rules in
    rw c.in_ok-push.ensures.items (goes_on server_at c.args.count c.loop.counter c.args.octets.now c.loop.rest.now c.in-Some.after.now c.loop.servers.items c.in-Some.server c.loop-test.true one c.loop.invariant)

pub returns-in_default : goal.returns-in_default
returns-in_default c =
    let none : server_at c.loop.rest.now ≡ None = search rules in
    stops server_at c.args.count c.loop.counter c.args.octets.now c.loop.rest.now c.loop.servers.items c.loop-test.true none c.loop.invariant

pub returns : goal.returns
returns c = ends server_at c.args.count c.loop.counter c.args.octets.now c.loop.rest.now c.loop.servers.items c.loop-test.false c.loop.invariant
