use Rattle.std.proofs.Common.{sym, subst}
use Rattle.hdl_name.specs.Name.{canonical}
use Rattle.hdl_rows.specs.Table.{with_values, IsPlaced}
use Rattle.hdl_rows.specs.Write.{Modify, CanWrite}
use Rattle.hdl_rows.proofs.Writes.{stay_placed_lem}
use Rattle.hdl_cachedrows.specs.Cache.{AreTrue}
use Rattle.hdl_cachedrows.specs.Cached.{Cached}
use Rattle.hdl_cachedrows.proofs.cached.CachedRowsRows.modify.Goals as goal

pub invariant_of-self : goal.invariant_of-self
invariant_of-self g c = subst (λ t. IsPlaced t × AreTrue t c.self.inside.cache.kept.entries) (sym c.in_err-modify.ensures.undone) c.self.invariant

pub invariant_of-self-2 : goal.invariant_of-self-2
invariant_of-self-2 g c =
    let old = g.R.Rows.content c.self.inside.rows in
    let write = Modify (canonical c.args.name.now) c.args.values.now in
    let can = subst (λ (s : Cached). CanWrite s.table write) (sym c.self.view_is) (c.requires.there, c.requires.distinct, c.requires.taken) in
    let all = c.put.ensures.still_true old c.self.invariant.1 in
    subst (λ t. IsPlaced t × AreTrue t c.put.new.self.kept.entries) (sym c.in_ok-modify.ensures.done)
    (stay_placed_lem old write c.self.invariant.0 can, subst (λ h. AreTrue (with_values old h c.args.values.now) c.put.new.self.kept.entries) c.canon.ensures all)
