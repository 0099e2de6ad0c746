use Rattle.std.proofs.Common.{subst, ap, ◌∙◌}
use Rattle.hdl_rows.specs.RowStore.{by_index, put_all}
use Rattle.hdl_cachedrows.specs.Cache.{IsKept}
use Rattle.hdl_cachedrows.proofs.Puts.{values_with, heads_with}
use Rattle.hdl_cachedrows.proofs.cached_handle.CachedHandle.with_values.Goals as goal

pub returns-in_ok-put_values-in-Values : goal.returns-in_ok-put_values-in-Values
returns-in_ok-put_values-in-Values c = record {
  of_table = λ t h is. values_with t h c.in-Values.all.items c.args.values.now _ (subst (IsKept t h) c.in-Values.is is)
      (c.in_ok-put_values-in-Values.ensures.put ∙ ap (put_all (by_index c.in-Values.all.items)) c.in_ok-copies-in-Values.ensures);
}

pub returns-in_ok-put_values-in-Heads : goal.returns-in_ok-put_values-in-Heads
returns-in_ok-put_values-in-Heads c = record {
  of_table = λ t h is. heads_with t h c.in-Heads.heads.items c.args.values.now _ (subst (IsKept t h) c.in-Heads.is is)
      (c.in_ok-put_values-in-Heads.ensures.put ∙ ap (put_all (by_index c.in-Heads.heads.items)) c.in_ok-heads_of-in-Heads.ensures);
}
