use Rattle.hdl_value_lines.proofs.PlainText.{printed_line}
use Rattle.hdl_value_lines.proofs.laws.printed_is_line.Goals as goal

pub returns : goal.returns
returns c = printed_line
