use Rattle.std.proofs.Common.{List, ℕ, [], sym, subst}
use Rattle.hdl_rows.specs.Table.{Table, with_new_handle}
use Rattle.hdl_cachedrows.specs.Cache.{IsAbsent, IsFound, AreHeads, IsKept}
use Rattle.hdl_cachedrows.proofs.Puts.{created_found, created_heads}
use Rattle.hdl_cachedrows.proofs.cached_handle.CachedHandle.created.Goals.{then-entry_cost-most, else-entry_cost-most}
use Rattle.hdl_cachedrows.proofs.cached_handle.CachedHandle.created.Goals as goal

pub returns : goal.returns
returns c =
    let before : (t : Table) (h : List ℕ) → IsAbsent t h → IsKept (with_new_handle t h []) h c.if-entry_cost-most.before = λ t h is. elim c.if-entry_cost-most.branch [
      | then-entry_cost-most w ↦ subst (IsKept (with_new_handle t h []) h) (sym w.before-is) (subst (AreHeads (with_new_handle t h []) h) (sym c.in_ok-none.ensures.items) (created_heads t h is))
      | else-entry_cost-most w ↦ subst (IsKept (with_new_handle t h []) h) (sym w.before-is) (subst (IsFound (with_new_handle t h []) h) (sym c.in_ok-none.ensures.items) (created_found t h is))
    ] in
    record { of_table = λ t h is. c.with_values.ensures.of_table (with_new_handle t h []) h (before t h is) }
