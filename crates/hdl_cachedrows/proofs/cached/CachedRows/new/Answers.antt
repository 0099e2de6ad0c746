use Rattle.std.proofs.Common.{List, sym, subst}
use Rattle.hdl_cachedrows.specs.Cost.{Entry}
use Rattle.hdl_cachedrows.specs.Cache.{AreTrue}
use Rattle.hdl_cachedrows.proofs.Truth.{none_placed, none_true}
use Rattle.hdl_cachedrows.proofs.cached.CachedRows.new.Goals as goal

pub invariant_of-result : goal.invariant_of-result
invariant_of-result g c =
    let table = g.R.Rows.content c.args.rows in
    (none_placed table c.requires.empty, subst (λ (es : List Entry). AreTrue table es) (sym c.in_ok-cache.ensures.empty) (none_true table))
