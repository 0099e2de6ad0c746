use Rattle.std.proofs.Common.{◌≡◌, ◌∙◌, List, ℕ, true, false, drop, ap, subst, rules}
use Rattle.hdl_frame.specs.declared.envelope.Envelope.{Envelope}
use Rattle.hdl_frame.specs.Envelope.{envelope_at}
use Rattle.hdl_value.specs.declared.wire.Wire.{Wire}
use Rattle.hdl_msg.specs.Reply.{ReplyParts, SpellsReply, reply_seen}
use Rattle.hdl_client.specs.declared.batch.PendingRequest.{PendingRequest}
use Rattle.hdl_client.specs.Batch.{IsOutcome, AnswersFor}
use Rattle.hdl_client.specs.Exchange.{delivery_in, TakesFrame}
use Rattle.hdl_client.specs.Reply.{Delivery, IsReplyTo}
use Rattle.hdl_client.specs.Outcomes.{IsTaken, IsSentFor}
use Rattle.hdl_client.proofs.Frames.{carried, delivery}
use Rattle.hdl_client.proofs.Told.{told_one, answered_one, due_told, due_answered}
use Rattle.hdl_client.proofs.session.Session.receive_one.Goals as goal

pub returns-in-Done-clause-goes_on : goal.returns-in-Done-clause-goes_on
returns-in-Done-clause-goes_on g c =
    let pending : PendingRequest = c.in_ok-pending.pending in
    let wire : Wire = pending.task.now.request.wire in
    let found = c.in_ok-frame.frame in
    let taken : TakesFrame (g.S.Transport.received c.args.self.now.stream) (g.S.Transport.received c.receive.new.stream) found = c.in_ok-frame.ensures.taken in
    let reply : Delivery = c.in_ok-reply.reply in
    let parts : ReplyParts = reply_seen c.view-view.result in
    let made : reply ≡ delivery wire found.envelope found.payload.items = search rules in
    let same : reply ≡ delivery_in wire taken.octets = carried _ _ wire found taken reply made in
    let own_first : IsReplyTo wire pending.request reply = search rules in
    let own : IsReplyTo wire pending.request (delivery_in wire taken.octets) = subst (IsReplyTo wire pending.request) same own_first in
    let seen : SpellsReply reply.wire reply.message parts = search rules in
    let read : SpellsReply wire (drop 20 taken.octets) parts = subst (λ (d : Delivery). SpellsReply d.wire d.message parts) same seen in
    let right : IsOutcome c.args.keys.now pending.task.now pending.is_answer parts c.in-Done.code = search rules in
    let left : IsTaken c.args.in_flight.now.items pending c.take_pending.new.in_flight.items = c.in_ok-pending.ensures.taken in
    λ start begun tasks run r. told_one g.S.Transport g.O.Outcomes.notes c.args.keys.now start begun tasks run c.args.self.now.stream c.receive.new.stream c.args.outcomes.now c.note_reply.new.self c.args.in_flight.now.items c.take_pending.new.in_flight.items pending taken.octets parts c.in-Done.code
    r taken.taken c.in_ok-frame.ensures.sent left own read right c.note_reply.ensures.noted

pub returns-in-Done-clause-due : goal.returns-in-Done-clause-due
returns-in-Done-clause-due g c = due_told c.args.in_flight.now.items c.in_ok-pending.pending c.take_pending.new.in_flight.items c.in_ok-pending.ensures.taken

pub returns-clause-goes_on : goal.returns-clause-goes_on
returns-clause-goes_on g c =
    let pending : PendingRequest = c.in_ok-pending.pending in
    let wire : Wire = pending.task.now.request.wire in
    let found = c.in_ok-frame.frame in
    let taken : TakesFrame (g.S.Transport.received c.args.self.now.stream) (g.S.Transport.received c.receive.new.stream) found = c.in_ok-frame.ensures.taken in
    let reply : Delivery = c.in_ok-reply.reply in
    let parts : ReplyParts = reply_seen c.view-view.result in
    let answer : List ℕ = c.in-Challenge.answer.items in
    let made : reply ≡ delivery wire found.envelope found.payload.items = search rules in
    let same : reply ≡ delivery_in wire taken.octets = carried _ _ wire found taken reply made in
    let own_first : IsReplyTo wire pending.request reply = search rules in
    let own : IsReplyTo wire pending.request (delivery_in wire taken.octets) = subst (IsReplyTo wire pending.request) same own_first in
    let seen : SpellsReply reply.wire reply.message parts = search rules in
    let read : SpellsReply wire (drop 20 taken.octets) parts = subst (λ (d : Delivery). SpellsReply d.wire d.message parts) same seen in
    let once : pending.is_answer ≡ false = search rules in
    let right : AnswersFor c.args.keys.now pending.task.now parts answer = search rules in
    let left : IsTaken c.args.in_flight.now.items pending c.take_pending.new.in_flight.items = c.in_ok-pending.ensures.taken in
    let under : c.envelope-session.result ≡ envelope_at taken.octets = c.envelope-session.ensures ∙ ap (λ (d : Delivery). d.envelope) same in
    let text : c.deref.result.now ≡ answer = search rules in
    let launched_first : IsSentFor g.S.Transport c.receive.new.stream c.take_pending.new.in_flight.items pending.task.now c.envelope-session.result.session answer true c.send_task.new.self.stream c.send_task.new.in_flight.items =
    subst (λ (m : List ℕ). IsSentFor g.S.Transport c.receive.new.stream c.take_pending.new.in_flight.items pending.task.now c.envelope-session.result.session m true c.send_task.new.self.stream c.send_task.new.in_flight.items) text c.in_ok-send_task-in-Challenge.ensures.launched in
    let launched : IsSentFor g.S.Transport c.receive.new.stream c.take_pending.new.in_flight.items pending.task.now (envelope_at taken.octets).session answer true c.send_task.new.self.stream c.send_task.new.in_flight.items =
    subst (λ (e : Envelope). IsSentFor g.S.Transport c.receive.new.stream c.take_pending.new.in_flight.items pending.task.now e.session answer true c.send_task.new.self.stream c.send_task.new.in_flight.items) under launched_first in
    λ start begun tasks run r. answered_one g.S.Transport g.O.Outcomes.notes c.args.keys.now start begun tasks run c.args.self.now.stream c.receive.new.stream c.send_task.new.self.stream c.args.outcomes.now c.args.in_flight.now.items c.take_pending.new.in_flight.items c.send_task.new.in_flight.items pending taken.octets parts answer
    r taken.taken c.in_ok-frame.ensures.sent left own read once right launched

pub returns-clause-due : goal.returns-clause-due
returns-clause-due g c =
    let once : c.in_ok-pending.pending.is_answer ≡ false = search rules in
    let launched = c.in_ok-send_task-in-Challenge.ensures.launched in
    due_answered c.args.in_flight.now.items c.in_ok-pending.pending c.take_pending.new.in_flight.items launched.pending c.send_task.new.in_flight.items c.in_ok-pending.ensures.taken once launched.kind launched.joined
