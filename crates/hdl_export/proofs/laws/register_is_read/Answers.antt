use Rattle.hdl_export.proofs.Accepted.{all_accepted}
use Rattle.hdl_export.proofs.laws.register_is_read.Goals as goal

pub returns : goal.returns
returns c = λ texts r rows h w is. all_accepted texts r rows h w is
