use Rattle.hdl_laws.proofs.Limits.{limits_bound}
use Rattle.hdl_laws.proofs.laws.limits_bound.Goals as goal

pub returns : goal.returns
returns c = limits_bound
