use Rattle.std.proofs.Common.{true, false, ap}
use Rattle.hdl_name.specs.Name.{canonical}
use Rattle.hdl_rows.specs.Table.{Held}
use Rattle.hdl_rows.specs.Write.{Modify}
use Rattle.hdl_partitionedrows.specs.Partitioned.{is_second}
use Rattle.hdl_partitionedrows.proofs.Joined.{can_write, first_done, second_done, seen, sided}
use Rattle.hdl_partitionedrows.proofs.partitioned.PartitionedRowsRows.modify.Goals as goal

pub modify-requires : goal.modify-requires
modify-requires g c =
    let is = is_second c.self.inside.fork in
    let first = g.R.Rows.content c.self.inside.first.value in
    let second = g.R.Rows.content c.self.inside.second.value in
    let part = ap g.R.Rows.content c.deref_mut.ensures.value in
    let whole = ap (λ (s : Held). s.table) c.self.view_is in
    let agree = seen is first second c.args.self.now.table (g.R.Rows.content c.deref_mut.result.now) c.canon.result.now (canonical c.args.name.now) true c.canon.ensures c.if-is_second.ensures whole part in
    let can = can_write (Modify (canonical c.args.name.now) c.args.values.now) c.args.self.now.table (g.R.Rows.content c.deref_mut.result.now) agree (c.requires.there, c.requires.distinct, c.requires.taken) in
    record { there = can.0; distinct = can.1; taken = can.2 }

pub returns-then-is_second-clause-done : goal.returns-then-is_second-clause-done
returns-then-is_second-clause-done g c =
    let is = is_second c.self.inside.fork in
    let first = g.R.Rows.content c.self.inside.first.value in
    let second = g.R.Rows.content c.self.inside.second.value in
    let part = ap g.R.Rows.content c.deref_mut.ensures.value in
    let whole = ap (λ (s : Held). s.table) c.self.view_is in
    let side = sided is c.canon.result.now (canonical c.args.name.now) true c.canon.ensures c.if-is_second.ensures in
    second_done c.modify.result (Modify (canonical c.args.name.now) c.args.values.now) is first second c.args.self.now.table (g.R.Rows.content c.deref_mut.result.now) (g.R.Rows.content c.modify.new.self) side whole part c.modify.ensures.done

pub modify-requires-else-is_second : goal.modify-requires-else-is_second
modify-requires-else-is_second g c =
    let is = is_second c.self.inside.fork in
    let first = g.R.Rows.content c.self.inside.first.value in
    let second = g.R.Rows.content c.self.inside.second.value in
    let part = ap g.R.Rows.content c.deref_mut-else-is_second.ensures.value in
    let whole = ap (λ (s : Held). s.table) c.self.view_is in
    let agree = seen is first second c.args.self.now.table (g.R.Rows.content c.deref_mut-else-is_second.result.now) c.canon.result.now (canonical c.args.name.now) false c.canon.ensures c.if-is_second.ensures whole part in
    let can = can_write (Modify (canonical c.args.name.now) c.args.values.now) c.args.self.now.table (g.R.Rows.content c.deref_mut-else-is_second.result.now) agree (c.requires.there, c.requires.distinct, c.requires.taken) in
    record { there = can.0; distinct = can.1; taken = can.2 }

pub returns-else-is_second-clause-done : goal.returns-else-is_second-clause-done
returns-else-is_second-clause-done g c =
    let is = is_second c.self.inside.fork in
    let first = g.R.Rows.content c.self.inside.first.value in
    let second = g.R.Rows.content c.self.inside.second.value in
    let part = ap g.R.Rows.content c.deref_mut-else-is_second.ensures.value in
    let whole = ap (λ (s : Held). s.table) c.self.view_is in
    let side = sided is c.canon.result.now (canonical c.args.name.now) false c.canon.ensures c.if-is_second.ensures in
    first_done c.modify-else-is_second.result (Modify (canonical c.args.name.now) c.args.values.now) is first second c.args.self.now.table (g.R.Rows.content c.deref_mut-else-is_second.result.now) (g.R.Rows.content c.modify-else-is_second.new.self) side whole part c.modify-else-is_second.ensures.done
