use Rattle.std.proofs.Common.{◌≡◌, take}
use Rattle.std.specs.List.{filter_map}
use Rattle.hdl_rows.specs.Table.{value_with}
use Rattle.hdl_durablerows.proofs.inverse.chosen.Given as goal

abbrev pub invariant-loop-index : goal.invariant-loop-index
invariant-loop-index l = l.some.items ≡ filter_map (λ i. value_with i l.values) (take l.index-index l.indexes)
