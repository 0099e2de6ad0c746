use Rattle.hdl_durablerows.proofs.Undoing as law
use Rattle.hdl_durablerows.proofs.inverse.undone.Goals as goal

pub returns : goal.returns
returns c = law.undone
