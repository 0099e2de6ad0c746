use Rattle.hdl_value_lines.proofs.PrintedLines.{hidden_is_refused_lem}
use Rattle.hdl_value_lines.proofs.laws.hidden_is_refused.Goals as goal

pub returns : goal.returns
returns c = hidden_is_refused_lem
