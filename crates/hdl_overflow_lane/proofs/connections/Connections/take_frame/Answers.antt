use Rattle.std.proofs.Common.{sym}
use Rattle.hdl_overflow_lane.proofs.BookLemmas.{rests}
use Rattle.hdl_overflow_lane.proofs.connections.Connections.take_frame.Goals as goal

pub returns-in-Ok-None-clause-none : goal.returns-in-Ok-None-clause-none
returns-in-Ok-None-clause-none c =
    let none = c.in-Ok-None.ensures.none in
    let rested = rw c.in-Ok-None.field-0-is at none in
    rests c.args.self.now.entries c.args.place c.in-Some.entry.now c.next_frame.new.self (sym c.in-Some.ensures.value) c.next_frame.ensures.serial rested
