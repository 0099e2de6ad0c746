use Rattle.hdl_history.proofs.RoundTrip.{written_is_read_lem}
use Rattle.hdl_history.proofs.laws.written_is_read.Goals as goal

pub returns : goal.returns
returns c = written_is_read_lem
