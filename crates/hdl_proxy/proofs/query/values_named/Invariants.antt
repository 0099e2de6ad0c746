use Rattle.std.proofs.Common.{◌≡◌, map, take}
use Rattle.std.specs.List.{filter_map}
use Rattle.hdl_proxy.proofs.Pairs.{named_value}
use Rattle.hdl_proxy.proofs.query.values_named.Given as goal

abbrev pub invariant-loop-pair : goal.invariant-loop-pair
invariant-loop-pair l = map (λ value. value.now) l.values.items ≡ filter_map (named_value l.name) (take l.pair-index l.pairs)
