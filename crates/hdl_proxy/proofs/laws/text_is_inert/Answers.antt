use Rattle.hdl_proxy.proofs.Inert.{escaped_inert}
use Rattle.hdl_proxy.proofs.laws.text_is_inert.Goals as goal

pub returns : goal.returns
returns c = escaped_inert
