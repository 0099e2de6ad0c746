use Rattle.std.proofs.Common.{◌≤◌, IsTrue}
use Rattle.hdl_workers.specs.WorkerLane.{put_by, SameWorkerLane}
use Rattle.hdl_workers.specs.Stamps.{StampsUsed}
use Rattle.hdl_workers.specs.Mail.{correspondence_at, Trading}
use Rattle.hdl_workers.proofs.packet.serve_packets.Given as goal

abbrev pub invariant-loop-buffer : goal.invariant-loop-buffer
invariant-loop-buffer g l = record {
  faults : g.P.Packets.fault_count l.fn.packets ≤ g.P.Packets.fault_count l.packets;
  line : SameWorkerLane l.fn.line l.line;
  stamps : StampsUsed g.C.LoopClock g.N.Nonces (l.fn.clock, l.fn.nonces, put_by l.fn.line) (l.clock, l.nonces, put_by l.line);
  trading : IsTrue g.P.Packets.is_observed → Trading (g.P.Packets.received l.packets) (g.P.Packets.fault_count l.fn.packets) (correspondence_at g.P.Packets l.packets l.line l.peers.items);
}

abbrev pub decreases-loop-buffer : goal.decreases-loop-buffer
decreases-loop-buffer g l = l.line.turns
