use Rattle.hdl_durablerows.proofs.Undoing as law
use Rattle.hdl_durablerows.proofs.inverse.own_indexes_stay.Goals as goal

pub returns : goal.returns
returns c = law.own_indexes_stay
