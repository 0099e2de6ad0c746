use Rattle.hdl_proxy.proofs.Behind.{or_behind}
use Rattle.hdl_proxy.proofs.pasted.behind_service.Goals as goal

pub returns-in-None : goal.returns-in-None
returns-in-None c = or_behind _ _ _ c.in-None.ensures c.behind_address.ensures
