use Rattle.hdl_rest.proofs.Ones.{read_by}
use Rattle.hdl_rest.proofs.Sendings.{asked_so}
use Rattle.hdl_rest.proofs.asking.indexes_there.Goals as goal

pub returns-in-Ok-clause-asked : goal.returns-in-Ok-clause-asked
returns-in-Ok-clause-asked g c = asked_so c.in-Ok.ensures.asked (read_by _ _ _ _ _ _ _ c.sent.ensures.octets c.view.ensures.seen c.indexes_in_reply.ensures.shown)
