use Rattle.std.proofs.Common.{◌≡◌, false, take}
use Rattle.std.specs.List.{list_any}
use Rattle.hdl_proxy.proofs.Pairs.{is_named}
use Rattle.hdl_proxy.proofs.query.has_pair.Given as goal

abbrev pub invariant-loop-pair : goal.invariant-loop-pair
invariant-loop-pair l = list_any (is_named l.name) (take l.pair-index l.pairs) ≡ false
