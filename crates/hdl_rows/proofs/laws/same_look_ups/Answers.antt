use Rattle.hdl_rows.proofs.Writes.{same_look_ups_lem}
use Rattle.hdl_rows.proofs.laws.same_look_ups.Goals as goal

pub returns : goal.returns
returns c = same_look_ups_lem
