use Rattle.hdl_laws.proofs.Announced.{steps_announce}
use Rattle.hdl_laws.proofs.laws.reply_announced.Goals as goal

pub returns : goal.returns
returns c = steps_announce
