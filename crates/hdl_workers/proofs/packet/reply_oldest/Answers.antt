use Rattle.std.proofs.Common.{◌≡◌, ◌∷◌}
use Rattle.hdl_workers.specs.Mail.{correspondence_at, Sends, SendsReply, BeginsReply}
use Rattle.hdl_workers.specs.Octets.{octets_of}
use Rattle.hdl_workers.proofs.Mails.{first_out, replied, replied_part}
use Rattle.hdl_workers.proofs.packet.reply_oldest.Goals as goal

pub returns-in-Some-clause-replied : goal.returns-in-Some-clause-replied
returns-in-Some-clause-replied g c = λ t whole.
    let first : c.args.peers.now.items ≡ c.remove-peer.result ∷ c.remove-peer.new.self.items = first_out _ _ _ c.requires.some c.remove-peer.ensures.value c.remove-peer.ensures.items in
    let sends : Sends (SendsReply c.remove-peer.result (octets_of c.in-Some.outcome)) (g.P.Packets.sent c.args.packets.now) (g.P.Packets.fault_count c.args.packets.now) (g.P.Packets.sent c.end_reply.new.self) (g.P.Packets.fault_count c.end_reply.new.self) =
    rw (c.end_reply.ensures.sent t, c.end_reply.ensures.faults, ← c.octets_of.ensures) (c.send_reply-sufficed.ensures.whole t whole) in
    replied c.remove-peer.result (correspondence_at g.P.Packets c.args.packets.now c.args.line.now c.args.peers.now.items)
    (correspondence_at g.P.Packets c.end_reply.new.self c.await_outcome.new.line c.remove-peer.new.self.items) c.in-Some.outcome first c.await_outcome.ensures.put c.in-Some.ensures.taken sends

pub returns-in-Some-clause-cut : goal.returns-in-Some-clause-cut
returns-in-Some-clause-cut g c = λ t _.
    let first : c.args.peers.now.items ≡ c.remove-peer.result ∷ c.remove-peer.new.self.items = first_out _ _ _ c.requires.some c.remove-peer.ensures.value c.remove-peer.ensures.items in
    let sends : Sends (BeginsReply c.remove-peer.result (octets_of c.in-Some.outcome)) (g.P.Packets.sent c.args.packets.now) (g.P.Packets.fault_count c.args.packets.now) (g.P.Packets.sent c.end_reply.new.self) (g.P.Packets.fault_count c.end_reply.new.self) =
    rw (c.end_reply.ensures.sent t, c.end_reply.ensures.faults, ← c.octets_of.ensures) (c.send_reply-sufficed.ensures.part t) in
    replied_part c.remove-peer.result (correspondence_at g.P.Packets c.args.packets.now c.args.line.now c.args.peers.now.items)
    (correspondence_at g.P.Packets c.end_reply.new.self c.await_outcome.new.line c.remove-peer.new.self.items) c.in-Some.outcome first c.await_outcome.ensures.put c.in-Some.ensures.taken sends
