use Rattle.hdl_value.proofs.Referred.{granted_is, granted_has}
use Rattle.hdl_value.proofs.laws.grants_are_named.Goals as goal

pub returns : goal.returns
returns c = λ v mask p fits. (granted_is v mask p fits, granted_has v mask p)
