use Rattle.hdl_frame.proofs.WholeLemmas.{none_is_missing_lem}
use Rattle.hdl_frame.proofs.laws.none_is_missing.Goals as goal

pub returns : goal.returns
returns c = none_is_missing_lem
