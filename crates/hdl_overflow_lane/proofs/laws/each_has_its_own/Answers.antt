use Rattle.hdl_overflow_lane.proofs.RunLemmas.{has_its_own_lem}
use Rattle.hdl_overflow_lane.proofs.laws.each_has_its_own.Goals as goal

pub returns : goal.returns
returns c = has_its_own_lem
