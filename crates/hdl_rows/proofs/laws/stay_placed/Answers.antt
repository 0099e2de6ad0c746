use Rattle.hdl_rows.proofs.Writes.{stay_placed_lem}
use Rattle.hdl_rows.proofs.laws.stay_placed.Goals as goal

pub returns : goal.returns
returns c = stay_placed_lem
