use Rattle.std.proofs.Common.{◌≡◌, ◌++◌, map, drop}
use Rattle.hdl_commands.specs.Ended.{line_of, found_lines}
use Rattle.hdl_commands.proofs.imports.creating.questions.Given as goal

abbrev pub invariant-loop-task : goal.invariant-loop-task
invariant-loop-task l = map line_of l.questions.items ++ found_lines l.lines (drop l.task-index l.tasks) ≡ found_lines l.lines l.tasks
