use Rattle.hdl_laws.proofs.Unshared.{unshared_is_quiet}
use Rattle.hdl_laws.proofs.laws.unshared_is_quiet.Goals as goal

pub returns : goal.returns
returns c = unshared_is_quiet
