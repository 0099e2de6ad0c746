use Rattle.std.proofs.Common.{sym, subst}
use Rattle.hdl_name.specs.Name.{canonical}
use Rattle.hdl_rows.specs.Table.{with_new_handle, IsPlaced}
use Rattle.hdl_rows.specs.Write.{Create, CanWrite}
use Rattle.hdl_rows.proofs.Writes.{stay_placed_lem}
use Rattle.hdl_cachedrows.specs.Cache.{IsAbsent, AreTrue}
use Rattle.hdl_cachedrows.specs.Cached.{Cached}
use Rattle.hdl_cachedrows.proofs.Truth.{no_value}
use Rattle.hdl_cachedrows.proofs.cached.CachedRowsRows.create.Goals as goal

pub invariant_of-self : goal.invariant_of-self
invariant_of-self g c = subst (λ t. IsPlaced t × AreTrue t c.self.inside.cache.kept.entries) (sym c.in_err-create.ensures.undone) c.self.invariant

pub invariant_of-self-2 : goal.invariant_of-self-2
invariant_of-self-2 g c =
    let old = g.R.Rows.content c.self.inside.rows in
    let name = canonical c.args.name.now in
    let write = Create (canonical c.args.name.now) c.args.values.now in
    let can = subst (λ (s : Cached). CanWrite s.table write) (sym c.self.view_is) (c.requires.absent, c.requires.distinct) in
    let none = no_value old name c.self.invariant.0 can.0 in
    let all = c.keep_created.ensures.still_true old c.self.invariant.1 (subst (IsAbsent old) (sym c.canon.ensures) none) in
    subst (λ t. IsPlaced t × AreTrue t c.keep_created.new.self.kept.entries) (sym c.in_ok-create.ensures.done)
    (stay_placed_lem old write c.self.invariant.0 can, subst (λ h. AreTrue (with_new_handle old h c.args.values.now) c.keep_created.new.self.kept.entries) c.canon.ensures all)
