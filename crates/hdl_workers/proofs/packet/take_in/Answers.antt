use Rattle.hdl_workers.specs.WorkerLane.{put_by}
use Rattle.hdl_workers.specs.Mail.{correspondence_with}
use Rattle.hdl_workers.proofs.Mails.{passed, taken_in}
use Rattle.hdl_workers.proofs.packet.take_in.Goals as goal

pub returns-in-Err-clause-took : goal.returns-in-Err-clause-took
returns-in-Err-clause-took g c = λ _ sent faults. passed (c.args.peer, c.args.octets.now) (correspondence_with sent faults c.args.line.now c.args.peers.now.items) c.in-Err.ensures.refused

pub returns-else-not-submit-clause-took : goal.returns-else-not-submit-clause-took
returns-else-not-submit-clause-took g c = λ _ sent faults.
    rw (c.push.ensures.items, c.submit.ensures.taken)
    (taken_in (c.args.peer, c.args.octets.now) (correspondence_with sent faults c.args.line.now c.args.peers.now.items) (put_by c.submit.new.line) c.in-Ok.ensures.ok.frame (c.submit.ensures.put c.if-not-submit.false))
