use Rattle.hdl_value.proofs.Referred.{refs_are, refs_have}
use Rattle.hdl_value.proofs.laws.refs_are_named.Goals as goal

pub returns : goal.returns
returns c = λ v p fits. (refs_are v p fits, refs_have v p)
