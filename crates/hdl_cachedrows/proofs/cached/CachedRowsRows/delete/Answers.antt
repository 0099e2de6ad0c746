use Rattle.std.proofs.Common.{sym, subst}
use Rattle.hdl_name.specs.Name.{canonical}
use Rattle.hdl_rows.specs.Write.{Delete, CanWrite}
use Rattle.hdl_cachedrows.specs.Cache.{AgreeBut}
use Rattle.hdl_cachedrows.specs.Cached.{Cached}
use Rattle.hdl_cachedrows.proofs.Truth.{agree, placed_after}
use Rattle.hdl_cachedrows.proofs.cached.CachedRowsRows.delete.Goals as goal

pub invariant_of-self : goal.invariant_of-self
invariant_of-self g c =
    let old = g.R.Rows.content c.self.inside.rows in
    let new = g.R.Rows.content c.delete.new.self in
    let write = Delete (canonical c.args.name.now) in
    let can = subst (λ (s : Cached). CanWrite s.table write) (sym c.self.view_is) c.requires.there in
    let but = agree c.delete.result write old new c.delete.ensures.done c.delete.ensures.undone in (
      placed_after c.delete.result write old new c.delete.ensures.done c.delete.ensures.undone c.self.invariant.0 can,
      c.forget.ensures.still_true old new c.self.invariant.1 (subst (λ h. AgreeBut h old new) (sym c.canon.ensures) but),
    )
