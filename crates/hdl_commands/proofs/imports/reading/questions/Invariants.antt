use Rattle.std.proofs.Common.{All}
use Rattle.hdl_commands.specs.Update.{IsReading}
use Rattle.hdl_commands.proofs.imports.reading.questions.Given as goal

abbrev pub invariant-loop-place : goal.invariant-loop-place
invariant-loop-place l = All IsReading l.questions.items
