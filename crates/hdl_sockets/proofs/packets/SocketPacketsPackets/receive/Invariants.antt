use Rattle.std.proofs.Common.{◌≡◌}
use Rattle.hdl_sockets.proofs.packets.SocketPacketsPackets.receive.Given as goal

abbrev pub invariant-loop : goal.invariant-loop
invariant-loop g l = l.self.faults ≡ l.initial.self.faults
