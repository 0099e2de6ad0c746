use Rattle.std.proofs.Common.{◌≡◌, true, refl, sym, subst}
use Rattle.hdl_rows.specs.Table.{has, IsPlaced}
use Rattle.hdl_cachedrows.specs.Cache.{AreTrue}
use Rattle.hdl_cachedrows.proofs.Truth.{seen_at}
use Rattle.hdl_cachedrows.proofs.cached.CachedRowsRows.exists.Goals as goal

pub returns-then-has-clause-found : goal.returns-then-has-clause-found
returns-then-has-clause-found g c =
    sym (seen_at (λ t h. has t h ≡ true) _ _ _ _ c.self.view_is c.canon.ensures (c.if-has.ensures.of_table (g.R.Rows.content c.self.inside.rows) c.self.invariant.1 refl))

pub invariant_of-self-in_err-is : goal.invariant_of-self-in_err-is
invariant_of-self-in_err-is g c = subst (λ t. IsPlaced t × AreTrue t c.self.inside.cache.kept.entries) (sym c.exists.ensures.unchanged) c.self.invariant

pub invariant_of-self-2 : goal.invariant_of-self-2
invariant_of-self-2 g c = subst (λ t. IsPlaced t × AreTrue t c.self.inside.cache.kept.entries) (sym c.exists.ensures.unchanged) c.self.invariant
