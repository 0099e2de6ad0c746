use Rattle.std.proofs.Common.{ltb, rules}
use Rattle.std.proofs.lemmas.List.Sorted.{IsPartitionPoint-from_clause}
use Rattle.hdl_rows.proofs.RowLemmas.{values_parted, values_counted}
use Rattle.hdl_rows.proofs.row.count_below.Goals as goal

pub returns : goal.returns
returns c =
    let parts = values_parted c.args.values.now c.args.index c.requires.ordered in
    let point = IsPartitionPoint-from_clause (λ v. ltb v.index c.args.index) _ _ c.partition_point.ensures.partitioned parts (λ a r f k. search rules) in
    values_counted c.args.values.now c.args.index c.partition_point.result c.partition_point.ensures.bound point
