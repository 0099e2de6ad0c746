use Rattle.hdl_laws.proofs.TwinRuns.{twins_reply_alike}
use Rattle.hdl_laws.proofs.laws.twin_replies.Goals as goal

pub returns : goal.returns
returns c = twins_reply_alike
