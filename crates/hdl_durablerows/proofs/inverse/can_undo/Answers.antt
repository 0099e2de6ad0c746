use Rattle.hdl_durablerows.proofs.Undoing as law
use Rattle.hdl_durablerows.proofs.inverse.can_undo.Goals as goal

pub returns : goal.returns
returns c = law.can_undo
