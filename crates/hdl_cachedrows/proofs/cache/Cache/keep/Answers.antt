use Rattle.std.proofs.Common.{sym, subst}
use Rattle.hdl_cachedrows.specs.Cache.{IsKept}
use Rattle.hdl_cachedrows.proofs.cache.Cache.keep.Goals as goal

pub returns-clause-still_true : goal.returns-clause-still_true
returns-clause-still_true c = λ t all of. c.insert.ensures.still_true t all (subst (λ h. IsKept t h c.in-Ok.kept) (sym c.in-Ok-from_slice.ensures.items) (c.in-Ok.ensures.of_table t c.args.name.now of))
