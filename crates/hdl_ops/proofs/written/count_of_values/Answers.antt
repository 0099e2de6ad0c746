use Rattle.std.proofs.Common.{inl, arith}
use Rattle.hdl_value.specs.Wires.{wire_value_at}
use Rattle.hdl_msg.proofs.Walks.{length-walk_items}
use Rattle.hdl_ops.proofs.written.count_of_values.Goals as goal

pub count-requires-clause-fits : goal.count-requires-clause-fits
count-requires-clause-fits c =
    let few = length-walk_items (wire_value_at c.args.values.wire) c.args.values.count c.args.values.octets.now in
    inl (omega (arith, few, c.ranges.values))
