use Rattle.hdl_rows.proofs.Writes.{other_handles_stay_lem}
use Rattle.hdl_rows.proofs.laws.other_handles_stay.Goals as goal

pub returns : goal.returns
returns c = other_handles_stay_lem
