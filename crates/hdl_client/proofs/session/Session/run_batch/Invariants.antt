use Rattle.std.proofs.Common.{List, take}
use Rattle.hdl_client.specs.declared.task.Task.{Task}
use Rattle.hdl_client.specs.Batch.{AreApart}
use Rattle.hdl_client.specs.Outcomes.{Run, IsRun}
use Rattle.hdl_client.proofs.session.Session.run_batch.Given as goal

abbrev pub invariant-loop-place : goal.invariant-loop-place
invariant-loop-place g l =
    AreApart l.in_flight.items
    × ((run : Run) × IsRun g.S.Transport g.O.Outcomes.notes l.batch.keys.items l.fn.self.stream l.fn.outcomes (take l.place l.batch.tasks.items) run l.self.stream l.outcomes l.in_flight.items)
