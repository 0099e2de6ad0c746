use Rattle.std.proofs.Common.{◌≡◌, IsTrue, length}
use Rattle.hdl_workers.specs.Replying.{OnlyReplies}
use Rattle.hdl_workers.specs.Mail.{correspondence_at, Replies}
use Rattle.hdl_workers.proofs.packet.reply_all.Given as goal

abbrev pub invariant-loop-packets : goal.invariant-loop-packets
invariant-loop-packets g l = record {
  only_replies : OnlyReplies g.P.Packets l.initial.packets l.initial.line l.packets l.line;
  answers : IsTrue g.C.LoopClock.is_observed → g.C.LoopClock.answers l.clock ≡ g.C.LoopClock.answers l.initial.clock;
  replied : IsTrue g.P.Packets.is_observed → Replies (correspondence_at g.P.Packets l.initial.packets l.initial.line l.initial.peers.items) (correspondence_at g.P.Packets l.packets l.line l.peers.items);
}

abbrev pub decreases-loop-packets : goal.decreases-loop-packets
decreases-loop-packets g l = length l.peers.items
