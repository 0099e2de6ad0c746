use Rattle.std.proofs.Common.{ap, sym, subst, ◌∙◌}
use Rattle.hdl_rows.specs.Table.{value_with}
use Rattle.hdl_cachedrows.specs.Cache.{IsKept}
use Rattle.hdl_cachedrows.proofs.Truth.{absent_true}
use Rattle.hdl_cachedrows.proofs.cached_handle.CachedHandle.at.Goals as goal

pub returns-in-None : goal.returns-in-None
returns-in-None c = record {
  of_table = λ t h is. sym (absent_true t h c.args.index c.in-Heads.heads.items (subst (IsKept t h) c.in-Heads.is is) (ap (value_with c.args.index) (sym c.deref-in-Heads.ensures.value) ∙ sym c.in-None.ensures.found));
}
