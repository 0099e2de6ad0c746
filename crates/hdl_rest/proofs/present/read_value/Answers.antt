use Rattle.hdl_rest.proofs.Presents.{value_by, value_none}
use Rattle.hdl_rest.proofs.Sendings.{asked_so}
use Rattle.hdl_rest.proofs.present.read_value.Goals as goal

pub returns-in-Ok-clause-asked : goal.returns-in-Ok-clause-asked
returns-in-Ok-clause-asked g c = asked_so c.in-Ok.ensures.asked (value_by _ _ _ _ _ _ _ c.sent.ensures.octets c.view.ensures.seen c.value_in_reply.ensures.shown)

pub returns-in-Err-clause-asked : goal.returns-in-Err-clause-asked
returns-in-Err-clause-asked g c = asked_so c.in-Err.ensures.asked (value_none _ _ _ _)
