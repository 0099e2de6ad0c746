use Rattle.hdl_value.proofs.Sound.{tested}
use Rattle.hdl_value.proofs.cut.CutValue.check.Goals as goal

pub returns-clause-test : goal.returns-clause-test
returns-clause-test c = rw (← c.self.view_is) (tested _ _ c.self.invariant.fits c.check.ensures)
