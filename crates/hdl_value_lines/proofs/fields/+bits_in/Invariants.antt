use Rattle.std.proofs.Common.{length}
use Rattle.hdl_value_lines.proofs.fields.+bits_in.Given as goal

abbrev pub decreases-bits_in : goal.decreases-bits_in
decreases-bits_in l = length l.digits.now
