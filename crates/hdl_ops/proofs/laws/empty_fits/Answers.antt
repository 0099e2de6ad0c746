use Rattle.hdl_ops.proofs.Lengths as lengths
use Rattle.hdl_ops.proofs.laws.empty_fits.Goals as goal

pub returns : goal.returns
returns c = lengths.empty_fits
