use Rattle.std.proofs.Common.{true, false, sym, ap, ◌∙◌, subst}
use Rattle.hdl_name.specs.Name.{canonical}
use Rattle.std.proofs.Common.{is_some, map}
use Rattle.hdl_rows.specs.Heads.{head}
use Rattle.hdl_rows.specs.Table.{Held, HaveTheirIndexes, values_in, values_of}
use Rattle.hdl_partitionedrows.specs.Partitioned.{is_second}
use Rattle.hdl_partitionedrows.proofs.Joined.{seen, own_indexes}
use Rattle.hdl_partitionedrows.proofs.partitioned.PartitionedRowsRows.heads.Goals as goal
use Rattle.hdl_partitionedrows.proofs.partitioned.PartitionedRowsRows.heads.Goals.{then-is_second+in_ok-heads, else-is_second+in_ok-heads-2}

pub returns-clause-there : goal.returns-clause-there
returns-clause-there g c =
    let is = is_second c.self.inside.fork in
    let content = g.R.Rows.content in
    let first = content c.self.inside.first.value in
    let second = content c.self.inside.second.value in
    let table = c.args.self.now.table in
    let name = canonical c.args.name.now in
    let whole = ap (λ (s : Held). s.table) c.self.view_is in
    elim c.if-is_second.branch [
      | then-is_second+in_ok-heads w ↦ ap is_some w.heads-is ∙ w.in_ok-heads.ensures.there ∙ sym (seen is first second table (content w.deref_mut.result.now) c.canon.result.now name true c.canon.ensures w.if-is_second.ensures whole (ap content w.deref_mut.ensures.value)).there
      | else-is_second+in_ok-heads-2 w ↦ ap is_some w.heads-is ∙ w.in_ok-heads-2.ensures.there ∙ sym (seen is first second table (content w.deref_mut-else-is_second.result.now) c.canon.result.now name false c.canon.ensures w.if-is_second.ensures whole (ap content w.deref_mut-else-is_second.ensures.value)).there
    ]

pub returns-clause-found : goal.returns-clause-found
returns-clause-found g c =
    let is = is_second c.self.inside.fork in
    let content = g.R.Rows.content in
    let first = content c.self.inside.first.value in
    let second = content c.self.inside.second.value in
    let table = c.args.self.now.table in
    let name = canonical c.args.name.now in
    let whole = ap (λ (s : Held). s.table) c.self.view_is in
    elim c.if-is_second.branch [
      | then-is_second+in_ok-heads w ↦ ap values_in w.heads-is ∙ w.in_ok-heads.ensures.found ∙ ap (map head) (sym (seen is first second table (content w.deref_mut.result.now) c.canon.result.now name true c.canon.ensures w.if-is_second.ensures whole (ap content w.deref_mut.ensures.value)).all)
      | else-is_second+in_ok-heads-2 w ↦ ap values_in w.heads-is ∙ w.in_ok-heads-2.ensures.found ∙ ap (map head) (sym (seen is first second table (content w.deref_mut-else-is_second.result.now) c.canon.result.now name false c.canon.ensures w.if-is_second.ensures whole (ap content w.deref_mut-else-is_second.ensures.value)).all)
    ]

pub returns-clause-by_index : goal.returns-clause-by_index
returns-clause-by_index g c =
    let is = is_second c.self.inside.fork in
    let content = g.R.Rows.content in
    let first = content c.self.inside.first.value in
    let second = content c.self.inside.second.value in
    let table = c.args.self.now.table in
    let name = canonical c.args.name.now in
    let whole = ap (λ (s : Held). s.table) c.self.view_is in
    elim c.if-is_second.branch [
      | then-is_second+in_ok-heads w ↦ let agree = (seen is first second table (content w.deref_mut.result.now) c.canon.result.now name true c.canon.ensures w.if-is_second.ensures whole (ap content w.deref_mut.ensures.value)) in subst (HaveTheirIndexes table name) (sym agree.all) (own_indexes table (content w.deref_mut.result.now) name (values_of (content w.deref_mut.result.now) name) agree w.in_ok-heads.ensures.by_index)
      | else-is_second+in_ok-heads-2 w ↦ let agree = (seen is first second table (content w.deref_mut-else-is_second.result.now) c.canon.result.now name false c.canon.ensures w.if-is_second.ensures whole (ap content w.deref_mut-else-is_second.ensures.value)) in subst (HaveTheirIndexes table name) (sym agree.all) (own_indexes table (content w.deref_mut-else-is_second.result.now) name (values_of (content w.deref_mut-else-is_second.result.now) name) agree w.in_ok-heads-2.ensures.by_index)
    ]
