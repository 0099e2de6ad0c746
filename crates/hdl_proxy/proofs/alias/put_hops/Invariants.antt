use Rattle.std.proofs.Common.{◌≡◌, ◌++◌, take, string_bytes}
use Rattle.std.specs.List.{flat_map}
use Rattle.hdl_proxy.specs.Alias.{hop_words}
use Rattle.hdl_proxy.proofs.alias.put_hops.Given as goal

abbrev pub invariant-loop-name : goal.invariant-loop-name
invariant-loop-name l = string_bytes l.text ≡ string_bytes l.fn.text ++ flat_map hop_words (take l.name-index l.names)
