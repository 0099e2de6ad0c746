use Rattle.hdl_rest.proofs.Ones.{among_by}
use Rattle.hdl_rest.proofs.carry.unasked.Goals as goal

pub returns-in-Some : goal.returns-in-Some
returns-in-Some c = among_by _ _ _ _ _ c.in-Some.is c.deref.ensures.value c.first_unasked.ensures
