use Rattle.hdl_rows.proofs.Writes.{unremoved_stay_lem}
use Rattle.hdl_rows.proofs.laws.unremoved_stay.Goals as goal

pub returns : goal.returns
returns c = unremoved_stay_lem
