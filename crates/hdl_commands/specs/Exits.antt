-- The numbers of exit statuses (docs/HDL.md).
use Rattle.std.specs.Prelude.{ℕ}
use Rattle.hdl_commands.specs.declared.exit_status.ExitStatus.{ExitStatus}
use Rattle.hdl_commands.specs.declared.exit_status.ExitStatus.TheVariants.{Success, Failure, Arguments, NoAnswer}

abbrev pub exit_number : ExitStatus → ℕ
exit_number Success = 0
exit_number Failure = 1
exit_number Arguments = 2
exit_number NoAnswer = 3
