use Rattle.hdl_laws.proofs.Calm.{calm_is_quiet}
use Rattle.hdl_laws.proofs.laws.calm_is_quiet.Goals as goal

pub returns : goal.returns
returns c = calm_is_quiet
