use Rattle.std.proofs.Common.{rules}
use Rattle.hdl_commands.proofs.Ended.{found_next, passed_next}
use Rattle.hdl_commands.proofs.imports.creating.questions.Goals as goal
use Rattle.hdl_commands.proofs.imports.creating.questions.Goals.{then-contains+in_ok-question+in_ok-push, else-contains}

pub loop-task-preserved : goal.loop-task-preserved
loop-task-preserved c = elim c.if-contains.branch [
  | then-contains+in_ok-question+in_ok-push w ↦ search (rules, found_next)
  | else-contains w ↦ search (rules, passed_next)
]
