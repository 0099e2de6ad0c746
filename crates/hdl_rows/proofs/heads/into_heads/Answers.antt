use Rattle.std.proofs.Common.{arith, ap, get_or, set, ◌∙◌}
use Rattle.std.proofs.lemmas.List.Edits.{map_over_more}
use Rattle.hdl_rows.specs.Heads.{head}
use Rattle.hdl_rows.proofs.heads.into_heads.Goals as goal

pub loop-value-preserved : goal.loop-value-preserved
loop-value-preserved c =
    ap (set c.loop-value.value-items c.loop-value.value-index) c.strip.ensures
    ∙ map_over_more head _ _ _ (get_or c.loop-value.value-items c.loop-value.value-index c.value-item.result) (omega arith) c.loop-value.invariant
    (ap (get_or c.loop-value.value-items c.loop-value.value-index) c.value-item.is)
