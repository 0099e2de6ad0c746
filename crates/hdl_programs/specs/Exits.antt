-- The numbers of exit statuses (docs/OPERATING.md, "Exit statuses").
use Rattle.std.specs.Prelude.{ℕ}
use Rattle.hdl_programs.specs.declared.exit_status.ExitStatus.{ExitStatus}
use Rattle.hdl_programs.specs.declared.exit_status.ExitStatus.TheVariants.{Success, Failure, Arguments, Tenants, Table, LeftOut, Diverged, Cluster}

abbrev pub exit_number : ExitStatus → ℕ
exit_number Success = 0
exit_number Failure = 1
exit_number Arguments = 2
exit_number Tenants = 3
exit_number Table = 4
exit_number LeftOut = 5
exit_number Diverged = 6
exit_number Cluster = 7
