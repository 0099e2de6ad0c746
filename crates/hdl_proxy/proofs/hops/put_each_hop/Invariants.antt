use Rattle.std.proofs.Common.{◌≡◌, ◌++◌, take}
use Rattle.std.specs.List.{flat_map}
use Rattle.hdl_proxy.specs.Hops.{hop_part}
use Rattle.hdl_proxy.proofs.hops.put_each_hop.Given as goal

abbrev pub invariant-loop-name : goal.invariant-loop-name
invariant-loop-name l = l.page.octets.items ≡ l.fn.page.octets.items ++ flat_map hop_part (take l.name-index l.names)
