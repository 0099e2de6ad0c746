use Rattle.hdl_laws.proofs.Isolation.{restricts_runs, run_without_busy_is_one, two_runs_agree}
use Rattle.hdl_laws.proofs.laws.restricted.Goals as goal

pub returns : goal.returns
returns c = record { alone = restricts_runs; one = run_without_busy_is_one; two_runs = two_runs_agree }
