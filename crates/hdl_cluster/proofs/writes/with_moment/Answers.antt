use Rattle.std.proofs.Common.{arith, ap, get_or}
use Rattle.std.proofs.lemmas.List.Edits.{map_over_more}
use Rattle.hdl_ops.specs.Tables.{with_timestamp}
use Rattle.hdl_cluster.proofs.writes.with_moment.Goals as goal

pub loop-value-preserved : goal.loop-value-preserved
loop-value-preserved c =
    map_over_more (with_timestamp c.args.moment) _ _ _ (get_or c.loop-value.value-items c.loop-value.value-index c.value-item.result) (omega arith) c.loop-value.invariant
    (ap (get_or c.loop-value.value-items c.loop-value.value-index) c.value-item.is)
