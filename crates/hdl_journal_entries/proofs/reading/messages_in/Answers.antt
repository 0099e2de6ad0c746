use Rattle.std.proofs.Common.{subst}
use Rattle.hdl_value.specs.Reading.{Reads}
use Rattle.hdl_journal_entries.specs.Entries.{dated_at}
use Rattle.hdl_journal_entries.proofs.Loops.{begins, goes_on, stops, ends}
use Rattle.hdl_journal_entries.proofs.reading.messages_in.Goals as goal

pub loop-init : goal.loop-init
loop-init c = rw c.new-messages.ensures.items (begins dated_at c.args.count c.args.octets.now)

pub loop-preserved : goal.loop-preserved
loop-preserved c =
    rw c.in_ok-push.ensures.items
    (goes_on dated_at c.args.count c.loop.counter c.args.octets.now c.loop.rest.now c.in-Some.after.now c.loop.messages.items c.in-Some.message c.loop-test.true
    (subst (λ read. Reads (λ x. (x.0, x.1.now)) read (dated_at c.loop.rest.now)) c.in-Some.is c.in_ok-message.ensures) c.loop.invariant)

pub returns-in_default : goal.returns-in_default
returns-in_default c =
    stops dated_at c.args.count c.loop.counter c.args.octets.now c.loop.rest.now c.loop.messages.items c.loop-test.true
    (subst (λ read. Reads (λ x. (x.0, x.1.now)) read (dated_at c.loop.rest.now)) c.in_default.is c.in_ok-message.ensures) c.loop.invariant

pub returns : goal.returns
returns c = ends dated_at c.args.count c.loop.counter c.args.octets.now c.loop.rest.now c.loop.messages.items c.loop-test.false c.loop.invariant
