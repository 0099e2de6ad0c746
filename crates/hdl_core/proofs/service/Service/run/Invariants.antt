use Rattle.std.proofs.Common.{◌≤◌, length, vec_capacity}
use Rattle.std.specs.Prelude.{All}
use Rattle.hdl_laws.specs.Runs.{HasRun}
use Rattle.hdl_laws.specs.Cost.{HasRunReads}
use Rattle.hdl_laws.specs.Reveals.{IsReadable}
use Rattle.hdl_core.proofs.service.Service.run.Given as goal

abbrev pub invariant-loop-event : goal.invariant-loop-event
invariant-loop-event g l = record {
  run : HasRun l.fn.self.world l.yielded l.outcomes.items l.self.world;
  reads : HasRunReads l.fn.self.world l.yielded l.outcomes.items l.self.world (g.R.Rows.reads l.fn.self.rows) (g.R.Rows.reads l.self.rows);
  read : All IsReadable l.outcomes.items;
  room : length l.fn.events.items ≤ vec_capacity l.outcomes;
}
