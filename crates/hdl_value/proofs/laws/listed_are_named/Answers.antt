use Rattle.hdl_value.proofs.Referred.{listed_is, listed_has}
use Rattle.hdl_value.proofs.laws.listed_are_named.Goals as goal

pub returns : goal.returns
returns c = λ v p fits. (listed_is v p fits, listed_has v p)
