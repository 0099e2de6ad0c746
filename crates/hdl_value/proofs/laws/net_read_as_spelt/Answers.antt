use Rattle.hdl_value.proofs.HandleNet.{net_codec}
use Rattle.hdl_value.proofs.laws.net_read_as_spelt.Goals as goal

pub returns : goal.returns
returns c = net_codec
