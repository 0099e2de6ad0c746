use Rattle.std.proofs.Common.{arith, rules}
use Rattle.hdl_value_lines.proofs.Readings.{cut_here, cut_none}
use Rattle.hdl_value_lines.proofs.fields.cut_at.Goals as goal

pub returns-then-octet-stop : goal.returns-then-octet-stop
returns-then-octet-stop c = cut_here c.args.stop c.args.octets.now c.loop-i.i (omega (arith, c.loop-i-test.true)) c.loop-i.invariant (search rules)

pub returns : goal.returns
returns c = cut_none c.args.stop c.args.octets.now (λ k lt. c.loop-i.invariant k (omega (arith, c.loop-i-test.false, lt)))
