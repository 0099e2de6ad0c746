use Rattle.hdl_laws.proofs.Denied.{reads_only}
use Rattle.hdl_laws.proofs.laws.reads_only.Goals as goal

pub returns : goal.returns
returns c = reads_only
