use Rattle.std.proofs.Common.{◌≡◌, ◌≤◌, ◌++◌, IsTrue, map}
use Rattle.hdl_workers.specs.Mail.{to_peer}
use Rattle.hdl_workers.proofs.Mails.{seen}
use Rattle.hdl_workers.proofs.packet.send_reply.Given as goal

abbrev pub invariant-loop-envelope : goal.invariant-loop-envelope
invariant-loop-envelope g l = record {
  turns : l.turns ≤ l.initial.turns;
  order : seen l.yielded ++ l.envelope-iterator ≡ l.initial.envelope-iterator;
  faults : g.P.Packets.fault_count l.packets ≡ g.P.Packets.fault_count l.initial.packets;
  received : IsTrue g.P.Packets.is_observed → g.P.Packets.received l.packets ≡ g.P.Packets.received l.initial.packets;
  sent : IsTrue g.P.Packets.is_observed → g.P.Packets.sent l.packets ≡ g.P.Packets.sent l.initial.packets ++ map (to_peer l.peer) (seen l.yielded);
}
