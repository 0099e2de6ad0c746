use Rattle.hdl_value_lines.proofs.PrintedLines.{written_is_printed_lem}
use Rattle.hdl_value_lines.proofs.laws.written_is_printed.Goals as goal

pub returns : goal.returns
returns c = written_is_printed_lem
