use Rattle.hdl_value.proofs.Sound.{sound_decides}
use Rattle.hdl_value.proofs.laws.soundness_decided.Goals as goal

pub returns : goal.returns
returns c = λ v fits. sound_decides v fits
