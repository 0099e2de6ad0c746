use Rattle.std.proofs.Common.{arith}
use Rattle.hdl_msg.proofs.RequestSpelling.{length-numbers}
use Rattle.hdl_msg.proofs.request_lengths.numbers_len.Goals as goal

pub returns : goal.returns
returns c = omega (arith, c.saturating_mul.ensures, c.saturating_add.ensures, length-numbers c.args.numbers.now)
