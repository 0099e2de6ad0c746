use Rattle.std.proofs.Common.{inl, arith}
use Rattle.std.specs.Int.{w32}
use Rattle.hdl_value.specs.Reading.{number_at}
use Rattle.hdl_msg.proofs.Walks.{length-walk_items}
use Rattle.hdl_ops.proofs.written.count_of_indexes.Goals as goal

pub count-requires-clause-fits : goal.count-requires-clause-fits
count-requires-clause-fits c =
    let few = length-walk_items (number_at w32) c.args.indexes.count c.args.indexes.octets.now in
    inl (omega (arith, few, c.ranges.indexes))
