use Rattle.std.proofs.Common.{sym, subst}
use Rattle.hdl_rows.specs.Table.{IsPlaced}
use Rattle.hdl_cachedrows.specs.Cache.{IsFound, AreTrue}
use Rattle.hdl_cachedrows.proofs.Truth.{seen_at}
use Rattle.hdl_cachedrows.proofs.cached.CachedRowsRows.values.Goals as goal

pub invariant_of-self : goal.invariant_of-self
invariant_of-self g c = (c.self.invariant.0, c.find.ensures.still_true (g.R.Rows.content c.self.inside.rows) c.self.invariant.1)

pub returns-in-Some-clause-found : goal.returns-in-Some-clause-found
returns-in-Some-clause-found g c =
    (seen_at (λ t h. IsFound t h c.in-Some.values.items) _ _ _ _ c.self.view_is c.canon.ensures (c.in-Some.ensures.of_table (g.R.Rows.content c.self.inside.rows) c.self.invariant.1)).found

pub returns-in-Some-clause-by_index : goal.returns-in-Some-clause-by_index
returns-in-Some-clause-by_index g c =
    (seen_at (λ t h. IsFound t h c.in-Some.values.items) _ _ _ _ c.self.view_is c.canon.ensures (c.in-Some.ensures.of_table (g.R.Rows.content c.self.inside.rows) c.self.invariant.1)).by_index

pub invariant_of-self-in_err-values : goal.invariant_of-self-in_err-values
invariant_of-self-in_err-values g c = subst (λ t. IsPlaced t × AreTrue t c.find.new.self.kept.entries) (sym c.values.ensures.unchanged) (c.self.invariant.0, c.find.ensures.still_true (g.R.Rows.content c.self.inside.rows) c.self.invariant.1)

pub invariant_of-self-2 : goal.invariant_of-self-2
invariant_of-self-2 g c = subst (λ t. IsPlaced t × AreTrue t c.find.new.self.kept.entries) (sym c.values.ensures.unchanged) (c.self.invariant.0, c.find.ensures.still_true (g.R.Rows.content c.self.inside.rows) c.self.invariant.1)
