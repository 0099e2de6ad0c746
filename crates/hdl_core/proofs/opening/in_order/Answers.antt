use Rattle.std.proofs.Common.{◌∙◌, map, arith, subst}
use Rattle.std.specs.List.Sorted.{IsPermutation}
use Rattle.std.proofs.lemmas.List.{take_all}
use Rattle.std.proofs.lemmas.List.Sorted.{IsPermutation-map}
use Rattle.hdl_core.specs.Opening.{row_at}
use Rattle.hdl_core.proofs.opening.in_order.Goals as goal

pub returns : goal.returns
returns c =
    let whole = c.loop-row.invariant ∙ take_all c.loop-row.row-index c.args.opening.now (omega arith) in
    subst (λ rows. IsPermutation rows (map row_at c.sort_by_key.new.self.items)) whole (IsPermutation-map row_at _ _ c.sort_by_key.ensures.permutation)
