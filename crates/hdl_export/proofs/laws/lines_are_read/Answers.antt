use Rattle.hdl_export.proofs.LinesRead.{all_read}
use Rattle.hdl_export.proofs.laws.lines_are_read.Goals as goal

pub returns : goal.returns
returns c = all_read
