use Rattle.hdl_rows.proofs.Writes.{removed_are_gone_lem}
use Rattle.hdl_rows.proofs.laws.removed_are_gone.Goals as goal

pub returns : goal.returns
returns c = removed_are_gone_lem
