use Rattle.hdl_client.specs.Batch.{AreApart, frames_awaited}
use Rattle.hdl_client.specs.Outcomes.{GoesOn}
use Rattle.hdl_client.proofs.session.Session.receive_all.Given as goal

abbrev pub invariant-replies : goal.invariant-replies
invariant-replies g l =
    AreApart l.in_flight.items
    × GoesOn g.S.Transport g.O.Outcomes.notes l.keys l.fn.self.stream l.fn.outcomes l.fn.in_flight.items l.self.stream l.outcomes l.in_flight.items

abbrev pub decreases-replies : goal.decreases-replies
decreases-replies g l = frames_awaited l.in_flight.items
