use Rattle.std.proofs.Common.{true, false, sym, ap, ◌∙◌, subst}
use Rattle.hdl_name.specs.Name.{canonical}
use Rattle.std.proofs.Common.{Vec}
use Rattle.std.specs.declared.alloc.Global.{Global}
use Rattle.hdl_value.specs.declared.value.Value.{Value}
use Rattle.hdl_rows.specs.Table.{Held, HaveTheirIndexes}
use Rattle.hdl_partitionedrows.specs.Partitioned.{is_second}
use Rattle.hdl_partitionedrows.proofs.Joined.{seen, own_indexes}
use Rattle.hdl_partitionedrows.proofs.partitioned.PartitionedRowsRows.values.Goals as goal
use Rattle.hdl_partitionedrows.proofs.partitioned.PartitionedRowsRows.values.Goals.{then-is_second+in_ok-values, else-is_second+in_ok-values-2}

pub returns-clause-found : goal.returns-clause-found
returns-clause-found g c =
    let is = is_second c.self.inside.fork in
    let content = g.R.Rows.content in
    let first = content c.self.inside.first.value in
    let second = content c.self.inside.second.value in
    let table = c.args.self.now.table in
    let name = canonical c.args.name.now in
    let whole = ap (λ (s : Held). s.table) c.self.view_is in
    elim c.if-is_second.branch [
      | then-is_second+in_ok-values w ↦ ap (λ (v : Vec Value Global). v.items) w.values-is ∙ w.in_ok-values.ensures.found ∙ sym (seen is first second table (content w.deref_mut.result.now) c.canon.result.now name true c.canon.ensures w.if-is_second.ensures whole (ap content w.deref_mut.ensures.value)).all
      | else-is_second+in_ok-values-2 w ↦ ap (λ (v : Vec Value Global). v.items) w.values-is ∙ w.in_ok-values-2.ensures.found ∙ sym (seen is first second table (content w.deref_mut-else-is_second.result.now) c.canon.result.now name false c.canon.ensures w.if-is_second.ensures whole (ap content w.deref_mut-else-is_second.ensures.value)).all
    ]

pub returns-clause-by_index : goal.returns-clause-by_index
returns-clause-by_index g c =
    let is = is_second c.self.inside.fork in
    let content = g.R.Rows.content in
    let first = content c.self.inside.first.value in
    let second = content c.self.inside.second.value in
    let table = c.args.self.now.table in
    let name = canonical c.args.name.now in
    let whole = ap (λ (s : Held). s.table) c.self.view_is in
    elim c.if-is_second.branch [
      | then-is_second+in_ok-values w ↦ subst (λ (v : Vec Value Global). HaveTheirIndexes table name v.items) (sym w.values-is) (own_indexes table (content w.deref_mut.result.now) name _ (seen is first second table (content w.deref_mut.result.now) c.canon.result.now name true c.canon.ensures w.if-is_second.ensures whole (ap content w.deref_mut.ensures.value)) w.in_ok-values.ensures.by_index)
      | else-is_second+in_ok-values-2 w ↦ subst (λ (v : Vec Value Global). HaveTheirIndexes table name v.items) (sym w.values-is) (own_indexes table (content w.deref_mut-else-is_second.result.now) name _ (seen is first second table (content w.deref_mut-else-is_second.result.now) c.canon.result.now name false c.canon.ensures w.if-is_second.ensures whole (ap content w.deref_mut-else-is_second.ensures.value)) w.in_ok-values-2.ensures.by_index)
    ]
