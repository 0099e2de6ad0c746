use Rattle.hdl_export.proofs.Only.{all_only}
use Rattle.hdl_export.proofs.laws.rows_are_only.Goals as goal

pub returns : goal.returns
returns c = λ texts r s rows h w k. all_only texts r s rows h w k
