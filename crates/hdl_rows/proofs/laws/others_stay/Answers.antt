use Rattle.hdl_rows.proofs.Writes.{others_stay_lem}
use Rattle.hdl_rows.proofs.laws.others_stay.Goals as goal

pub returns : goal.returns
returns c = others_stay_lem
