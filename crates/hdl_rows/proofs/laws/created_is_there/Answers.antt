use Rattle.hdl_rows.proofs.Writes.{created_is_there_lem}
use Rattle.hdl_rows.proofs.laws.created_is_there.Goals as goal

pub returns : goal.returns
returns c = created_is_there_lem
