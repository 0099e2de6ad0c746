use Rattle.std.proofs.Common.{◌≡◌, sym, subst}
use Rattle.hdl_rows.specs.Table.{place, at, IsPlaced}
use Rattle.hdl_cachedrows.specs.Cache.{AreTrue}
use Rattle.hdl_cachedrows.proofs.Truth.{seen_at}
use Rattle.hdl_cachedrows.proofs.cached.CachedRowsRows.at.Goals as goal

pub invariant_of-self : goal.invariant_of-self
invariant_of-self g c = (c.self.invariant.0, c.find_at.ensures.still_true (g.R.Rows.content c.self.inside.rows) c.self.invariant.1)

pub returns-in-Some-clause-found : goal.returns-in-Some-clause-found
returns-in-Some-clause-found g c =
    seen_at (λ t h. c.in-Some.value ≡ at t (place h c.args.reference.now.index)) _ _ _ _ c.self.view_is c.canon-name.ensures (c.in-Some.ensures.of_table (g.R.Rows.content c.self.inside.rows) c.self.invariant.1)

pub invariant_of-self-in_err-value : goal.invariant_of-self-in_err-value
invariant_of-self-in_err-value g c = subst (λ t. IsPlaced t × AreTrue t c.find_at.new.self.kept.entries) (sym c.at.ensures.unchanged) (c.self.invariant.0, c.find_at.ensures.still_true (g.R.Rows.content c.self.inside.rows) c.self.invariant.1)

pub invariant_of-self-2 : goal.invariant_of-self-2
invariant_of-self-2 g c = subst (λ t. IsPlaced t × AreTrue t c.find_at.new.self.kept.entries) (sym c.at.ensures.unchanged) (c.self.invariant.0, c.find_at.ensures.still_true (g.R.Rows.content c.self.inside.rows) c.self.invariant.1)
