use Rattle.hdl_rows.proofs.Writes.{handles_stay_lem}
use Rattle.hdl_rows.proofs.laws.handles_stay.Goals as goal

pub returns : goal.returns
returns c = handles_stay_lem
