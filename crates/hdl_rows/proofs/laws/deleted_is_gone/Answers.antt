use Rattle.hdl_rows.proofs.Writes.{deleted_is_gone_lem}
use Rattle.hdl_rows.proofs.laws.deleted_is_gone.Goals as goal

pub returns : goal.returns
returns c = deleted_is_gone_lem
