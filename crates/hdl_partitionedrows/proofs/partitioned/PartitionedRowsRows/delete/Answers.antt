use Rattle.std.proofs.Common.{true, false, ap}
use Rattle.hdl_name.specs.Name.{canonical}
use Rattle.hdl_rows.specs.Table.{Held}
use Rattle.hdl_rows.specs.Write.{Delete}
use Rattle.hdl_partitionedrows.specs.Partitioned.{is_second}
use Rattle.hdl_partitionedrows.proofs.Joined.{can_write, first_done, second_done, seen, sided, still_own}
use Rattle.hdl_partitionedrows.proofs.partitioned.PartitionedRowsRows.delete.Goals as goal

pub delete-requires : goal.delete-requires
delete-requires g c =
    let is = is_second c.self.inside.fork in
    let first = g.R.Rows.content c.self.inside.first.value in
    let second = g.R.Rows.content c.self.inside.second.value in
    let part = ap g.R.Rows.content c.deref_mut.ensures.value in
    let whole = ap (λ (s : Held). s.table) c.self.view_is in
    let agree = seen is first second c.args.self.now.table (g.R.Rows.content c.deref_mut.result.now) c.canon.result.now (canonical c.args.name.now) true c.canon.ensures c.if-is_second.ensures whole part in
    record { there = can_write (Delete (canonical c.args.name.now)) c.args.self.now.table (g.R.Rows.content c.deref_mut.result.now) agree c.requires.there }

pub returns-then-is_second-clause-done : goal.returns-then-is_second-clause-done
returns-then-is_second-clause-done g c =
    let is = is_second c.self.inside.fork in
    let first = g.R.Rows.content c.self.inside.first.value in
    let second = g.R.Rows.content c.self.inside.second.value in
    let part = ap g.R.Rows.content c.deref_mut.ensures.value in
    let whole = ap (λ (s : Held). s.table) c.self.view_is in
    let side = sided is c.canon.result.now (canonical c.args.name.now) true c.canon.ensures c.if-is_second.ensures in
    second_done c.delete.result (Delete (canonical c.args.name.now)) is first second c.args.self.now.table (g.R.Rows.content c.deref_mut.result.now) (g.R.Rows.content c.delete.new.self) side whole part c.delete.ensures.done

pub invariant_of-self : goal.invariant_of-self
invariant_of-self g c =
    let is = is_second c.self.inside.fork in
    let second = g.R.Rows.content c.self.inside.second.value in
    let part = ap g.R.Rows.content c.deref_mut.ensures.value in
    let side = sided is c.canon.result.now (canonical c.args.name.now) true c.canon.ensures c.if-is_second.ensures in
    (c.self.invariant.0, still_own c.delete.result (Delete (canonical c.args.name.now)) is second (g.R.Rows.content c.deref_mut.result.now) (g.R.Rows.content c.delete.new.self) true side c.self.invariant.1 part c.delete.ensures.done c.delete.ensures.undone)

pub delete-requires-else-is_second : goal.delete-requires-else-is_second
delete-requires-else-is_second g c =
    let is = is_second c.self.inside.fork in
    let first = g.R.Rows.content c.self.inside.first.value in
    let second = g.R.Rows.content c.self.inside.second.value in
    let part = ap g.R.Rows.content c.deref_mut-else-is_second.ensures.value in
    let whole = ap (λ (s : Held). s.table) c.self.view_is in
    let agree = seen is first second c.args.self.now.table (g.R.Rows.content c.deref_mut-else-is_second.result.now) c.canon.result.now (canonical c.args.name.now) false c.canon.ensures c.if-is_second.ensures whole part in
    record { there = can_write (Delete (canonical c.args.name.now)) c.args.self.now.table (g.R.Rows.content c.deref_mut-else-is_second.result.now) agree c.requires.there }

pub returns-else-is_second-clause-done : goal.returns-else-is_second-clause-done
returns-else-is_second-clause-done g c =
    let is = is_second c.self.inside.fork in
    let first = g.R.Rows.content c.self.inside.first.value in
    let second = g.R.Rows.content c.self.inside.second.value in
    let part = ap g.R.Rows.content c.deref_mut-else-is_second.ensures.value in
    let whole = ap (λ (s : Held). s.table) c.self.view_is in
    let side = sided is c.canon.result.now (canonical c.args.name.now) false c.canon.ensures c.if-is_second.ensures in
    first_done c.delete-else-is_second.result (Delete (canonical c.args.name.now)) is first second c.args.self.now.table (g.R.Rows.content c.deref_mut-else-is_second.result.now) (g.R.Rows.content c.delete-else-is_second.new.self) side whole part c.delete-else-is_second.ensures.done

pub invariant_of-self-else-is_second : goal.invariant_of-self-else-is_second
invariant_of-self-else-is_second g c =
    let is = is_second c.self.inside.fork in
    let first = g.R.Rows.content c.self.inside.first.value in
    let part = ap g.R.Rows.content c.deref_mut-else-is_second.ensures.value in
    let side = sided is c.canon.result.now (canonical c.args.name.now) false c.canon.ensures c.if-is_second.ensures in
    (still_own c.delete-else-is_second.result (Delete (canonical c.args.name.now)) is first (g.R.Rows.content c.deref_mut-else-is_second.result.now) (g.R.Rows.content c.delete-else-is_second.new.self) false side c.self.invariant.0 part c.delete-else-is_second.ensures.done c.delete-else-is_second.ensures.undone, c.self.invariant.1)
