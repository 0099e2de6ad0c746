use Rattle.std.proofs.Common.{sym, subst}
use Rattle.hdl_name.specs.Name.{canonical}
use Rattle.hdl_rows.specs.Write.{Remove, CanWrite}
use Rattle.hdl_cachedrows.specs.Cache.{AgreeBut}
use Rattle.hdl_cachedrows.specs.Cached.{Cached}
use Rattle.hdl_cachedrows.proofs.Truth.{agree, placed_after}
use Rattle.hdl_cachedrows.proofs.cached.CachedRowsRows.remove.Goals as goal

pub invariant_of-self : goal.invariant_of-self
invariant_of-self g c =
    let old = g.R.Rows.content c.self.inside.rows in
    let new = g.R.Rows.content c.remove.new.self in
    let write = Remove (canonical c.args.name.now) c.args.indexes.now in
    let can = subst (λ (s : Cached). CanWrite s.table write) (sym c.self.view_is) (c.requires.there, c.requires.distinct, c.requires.taken) in
    let but = agree c.remove.result write old new c.remove.ensures.done c.remove.ensures.undone in (
      placed_after c.remove.result write old new c.remove.ensures.done c.remove.ensures.undone c.self.invariant.0 can,
      c.forget.ensures.still_true old new c.self.invariant.1 (subst (λ h. AgreeBut h old new) (sym c.canon.ensures) but),
    )
