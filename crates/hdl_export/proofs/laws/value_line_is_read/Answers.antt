use Rattle.hdl_export.proofs.ValueLines.{line_says}
use Rattle.hdl_export.proofs.laws.value_line_is_read.Goals as goal

pub returns : goal.returns
returns c = λ row w named sound. line_says row w named sound
