use Rattle.std.proofs.Common.{◌∷◌, [], ◌∙◌, ap, sym, length-append, arith, List, ℕ}
use Rattle.std.specs.Ordering.{nat_cmp}
use Rattle.std.specs.FinMap.{put, is_sorted}
use Rattle.hdl_value.specs.declared.value.Value.{Value}
use Rattle.hdl_rows.specs.RowStore.{by_index}
use Rattle.hdl_rows.proofs.RowLemmas.{put_all-push}
use Rattle.hdl_rows.proofs.ShelfLemmas.{values_put}
use Rattle.hdl_rows.proofs.row.put_copies.Goals as goal

pub put_value-requires-clause-ordered : goal.put_value-requires-clause-ordered
put_value-requires-clause-ordered c =
    let rises = ap (λ (vs : List Value). is_sorted nat_cmp (by_index vs)) c.reserve.ensures.items ∙ c.requires.ordered in
    (values_put c.loop-value.values.items c.reserve.new.self.items c.loop-value.yielded c.loop-value.invariant.0 rises).0

pub loop-value-preserved : goal.loop-value-preserved
loop-value-preserved c =
    let v = c.in-Some.value in
    let room = length-append c.loop-value.yielded (c.in-Some.value ∷ []) in (
      c.put_value.ensures.put ∙ ap (λ (es : List (ℕ × Value)). put nat_cmp v.index v es) c.loop-value.invariant.0 ∙ sym (put_all-push (by_index c.reserve.new.self.items) c.loop-value.yielded v),
      omega (arith, c.put_value.ensures.len, c.put_value.ensures.capacity, c.loop-value.invariant.1),
    )
