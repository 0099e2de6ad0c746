use Rattle.hdl_laws.proofs.Reveals.{steps_tell}
use Rattle.hdl_laws.proofs.laws.reply_told.Goals as goal

pub returns : goal.returns
returns c = steps_tell
