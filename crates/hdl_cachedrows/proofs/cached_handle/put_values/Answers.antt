use Rattle.std.proofs.Common.{List, ℕ, sym, ap, ◌∙◌}
use Rattle.std.specs.Ordering.{nat_cmp}
use Rattle.std.specs.FinMap.{put}
use Rattle.hdl_value.specs.declared.value.Value.{Value}
use Rattle.hdl_rows.specs.RowStore.{by_index}
use Rattle.hdl_rows.proofs.RowLemmas.{put_all-push}
use Rattle.hdl_cachedrows.proofs.cached_handle.put_values.Goals as goal

pub loop-value-preserved : goal.loop-value-preserved
loop-value-preserved c =
    let v = c.in-Some.value in
    c.in_ok-put_value.ensures.put ∙ ap (λ (es : List (ℕ × Value)). put nat_cmp v.index v es) c.loop-value.invariant ∙ sym (put_all-push (by_index c.args.values.now.items) c.loop-value.yielded v)
