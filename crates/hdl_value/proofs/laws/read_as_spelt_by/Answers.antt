use Rattle.hdl_value.proofs.HandleNet.{wire_codec}
use Rattle.hdl_value.proofs.laws.read_as_spelt_by.Goals as goal

pub returns : goal.returns
returns c = wire_codec
