use Rattle.std.proofs.Common.{true, false, sym, ap, ◌∙◌}
use Rattle.hdl_name.specs.Name.{canonical}
use Rattle.hdl_rows.specs.Table.{Held}
use Rattle.hdl_partitionedrows.specs.Partitioned.{is_second}
use Rattle.hdl_partitionedrows.proofs.Joined.{seen}
use Rattle.hdl_partitionedrows.proofs.partitioned.PartitionedRowsRows.at.Goals as goal
use Rattle.hdl_partitionedrows.proofs.partitioned.PartitionedRowsRows.at.Goals.{then-is_second+in_ok-value, else-is_second+in_ok-value-2}

pub returns-clause-found : goal.returns-clause-found
returns-clause-found g c =
    let is = is_second c.self.inside.fork in
    let content = g.R.Rows.content in
    let first = content c.self.inside.first.value in
    let second = content c.self.inside.second.value in
    let table = c.args.self.now.table in
    let name = canonical c.args.reference.now.name in
    let whole = ap (λ (s : Held). s.table) c.self.view_is in
    elim c.if-is_second.branch [
      | then-is_second+in_ok-value w ↦ w.value-is ∙ w.in_ok-value.ensures.found ∙ sym ((seen is first second table (content w.deref_mut.result.now) c.canon.result.now name true c.canon.ensures w.if-is_second.ensures whole (ap content w.deref_mut.ensures.value)).each c.args.reference.now.index)
      | else-is_second+in_ok-value-2 w ↦ w.value-is ∙ w.in_ok-value-2.ensures.found ∙ sym ((seen is first second table (content w.deref_mut-else-is_second.result.now) c.canon.result.now name false c.canon.ensures w.if-is_second.ensures whole (ap content w.deref_mut-else-is_second.ensures.value)).each c.args.reference.now.index)
    ]
