use Rattle.hdl_value.proofs.Values.{value_codec}
use Rattle.hdl_value.proofs.laws.read_as_spelt.Goals as goal

pub returns : goal.returns
returns c = value_codec
