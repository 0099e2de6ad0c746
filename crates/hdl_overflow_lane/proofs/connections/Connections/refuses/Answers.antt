use Rattle.std.proofs.Common.{[], sym}
use Rattle.hdl_overflow_lane.proofs.BookLemmas.{goes_at}
use Rattle.hdl_overflow_lane.proofs.connections.Connections.refuses.Goals as goal

pub returns-in-Some-clause-talks : goal.returns-in-Some-clause-talks
returns-in-Some-clause-talks c =
    goes_at c.args.self.now.entries c.args.place c.in-Some.entry.now c.refuses.new.self (λ _. []) (sym c.in-Some.ensures.value) c.refuses.ensures.serial c.refuses.ensures.talk
