use Rattle.hdl_value.proofs.HandleNet.{read_by_second}
use Rattle.hdl_value.proofs.laws.read_by_second.Goals as goal

pub returns : goal.returns
returns c = read_by_second
