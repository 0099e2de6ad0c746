use Rattle.hdl_site.specs.Info.{attribute_at}
use Rattle.hdl_site.proofs.Loops.{begins, goes_on, stops, ends}
use Rattle.hdl_site.proofs.reading.attributes_in.Goals as goal

pub loop-init : goal.loop-init
loop-init c = rw c.new-attributes.ensures.items (begins attribute_at c.args.count c.args.octets.now)

pub loop-preserved : goal.loop-preserved
loop-preserved c = rw (c.in_ok-push.ensures.items, c.in_ok-attribute.ensures) (goes_on attribute_at c.args.count c.loop.counter c.args.octets.now c.loop.rest.now c.in-Some.after.now c.loop.attributes.items _ c.loop-test.true c.in-Some.ensures c.loop.invariant)

pub returns-in_default : goal.returns-in_default
returns-in_default c = stops attribute_at c.args.count c.loop.counter c.args.octets.now c.loop.rest.now c.loop.attributes.items c.loop-test.true c.in_default.ensures c.loop.invariant

pub returns : goal.returns
returns c = ends attribute_at c.args.count c.loop.counter c.args.octets.now c.loop.rest.now c.loop.attributes.items c.loop-test.false c.loop.invariant
