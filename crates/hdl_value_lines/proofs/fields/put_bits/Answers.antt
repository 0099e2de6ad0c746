use Rattle.std.proofs.Common.{◌++◌}
use Rattle.hdl_value.specs.Permission.{bits}
use Rattle.hdl_value.proofs.Bits.{bits_on}
use Rattle.hdl_value_lines.proofs.fields.put_bits.Goals as goal

pub loop-preserved : goal.loop-preserved
loop-preserved c =
    rw c.in_ok-push.ensures.items (bits_on c.args.count c.loop.counter c.loop.rest c.loop.out.items (c.args.out.now.items ++ bits c.args.count c.args.number) c.loop-test.true c.loop.invariant)
