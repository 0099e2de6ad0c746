use Rattle.std.proofs.Common.{sym, subst}
use Rattle.hdl_rows.specs.Table.{IsPlaced}
use Rattle.hdl_cachedrows.specs.Cache.{AreTrue}
use Rattle.hdl_cachedrows.proofs.cached.CachedRowsRows.names.Goals as goal

pub invariant_of-self : goal.invariant_of-self
invariant_of-self g c = subst (λ t. IsPlaced t × AreTrue t c.self.inside.cache.kept.entries) (sym c.names.ensures.unchanged) c.self.invariant

pub invariant_of-self-2 : goal.invariant_of-self-2
invariant_of-self-2 g c = subst (λ t. IsPlaced t × AreTrue t c.self.inside.cache.kept.entries) (sym c.names.ensures.unchanged) c.self.invariant
