use Rattle.std.proofs.Common.{sym, subst}
use Rattle.hdl_name.specs.Name.{canonical}
use Rattle.hdl_rows.specs.Table.{IsPlaced}
use Rattle.hdl_cachedrows.specs.Cache.{IsFound, AreTrue}
use Rattle.hdl_cachedrows.proofs.Truth.{seen_at, told}
use Rattle.hdl_cachedrows.proofs.cached.CachedRowsRows.look.Goals as goal

pub invariant_of-self : goal.invariant_of-self
invariant_of-self g c = (c.self.invariant.0, c.find.ensures.still_true (g.R.Rows.content c.self.inside.rows) c.self.invariant.1)

pub returns-in-Some-clause-there : goal.returns-in-Some-clause-there
returns-in-Some-clause-there g c =
    sym (seen_at (λ t h. IsFound t h c.in-Some.values.items) _ _ _ _ c.self.view_is c.canon.ensures (c.in-Some.ensures.of_table (g.R.Rows.content c.self.inside.rows) c.self.invariant.1)).there

pub returns-in-Some-clause-found : goal.returns-in-Some-clause-found
returns-in-Some-clause-found g c =
    (seen_at (λ t h. IsFound t h c.in-Some.values.items) _ _ _ _ c.self.view_is c.canon.ensures (c.in-Some.ensures.of_table (g.R.Rows.content c.self.inside.rows) c.self.invariant.1)).found

pub returns-in-Some-clause-by_index : goal.returns-in-Some-clause-by_index
returns-in-Some-clause-by_index g c =
    (seen_at (λ t h. IsFound t h c.in-Some.values.items) _ _ _ _ c.self.view_is c.canon.ensures (c.in-Some.ensures.of_table (g.R.Rows.content c.self.inside.rows) c.self.invariant.1)).by_index

pub invariant_of-self-in_err-found : goal.invariant_of-self-in_err-found
invariant_of-self-in_err-found g c = subst (λ t. IsPlaced t × AreTrue t c.find.new.self.kept.entries) (sym c.look.ensures.unchanged) (c.self.invariant.0, c.find.ensures.still_true (g.R.Rows.content c.self.inside.rows) c.self.invariant.1)

pub invariant_of-self-in_default-found : goal.invariant_of-self-in_default-found
invariant_of-self-in_default-found g c = subst (λ t. IsPlaced t × AreTrue t c.find.new.self.kept.entries) (sym c.look.ensures.unchanged) (c.self.invariant.0, c.find.ensures.still_true (g.R.Rows.content c.self.inside.rows) c.self.invariant.1)

pub invariant_of-self-in-Some-found : goal.invariant_of-self-in-Some-found
invariant_of-self-in-Some-found g c =
    let old = g.R.Rows.content c.self.inside.rows in
    let new = g.R.Rows.content c.look.new.self in
    let all = subst (λ t. AreTrue t c.find.new.self.kept.entries) (sym c.look.ensures.unchanged) (c.find.ensures.still_true old c.self.invariant.1) in
    (subst IsPlaced (sym c.look.ensures.unchanged) c.self.invariant.0, c.keep.ensures.still_true new all (told old new (canonical c.args.name.now) c.canon-in-Some-found.result.now c.in_ok-found.found c.in-Some-found.values c.deref-in-Some-found.result.now c.in-Some-found.is c.in_ok-found.ensures.there c.in_ok-found.ensures.found c.in_ok-found.ensures.by_index c.look.ensures.unchanged c.canon-in-Some-found.ensures c.deref-in-Some-found.ensures.value))
