use Rattle.std.proofs.Common.{[], ◌∷◌, take, refl, sym}
use Rattle.hdl_overflow_lane.specs.ConnectionBuffers.{writes}
use Rattle.hdl_overflow_lane.proofs.BookLemmas.{goes_at}
use Rattle.hdl_overflow_lane.proofs.connections.Connections.wrote.Goals as goal

pub returns-in-Some-clause-written : goal.returns-in-Some-clause-written
returns-in-Some-clause-written c =
    goes_at c.args.self.now.entries c.args.place c.in-Some.entry.now c.wrote.new.self (λ x. writes (take c.args.count x.talk.owed) ∷ []) (sym c.in-Some.ensures.value) c.wrote.ensures.serial (c.wrote.new.self.talk, c.wrote.ensures.written, refl)
