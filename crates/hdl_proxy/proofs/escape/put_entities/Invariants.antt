use Rattle.std.proofs.Common.{◌≡◌, ◌++◌, take}
use Rattle.hdl_proxy.specs.Escape.{entities}
use Rattle.hdl_proxy.proofs.escape.put_entities.Given as goal

abbrev pub invariant-loop-octet : goal.invariant-loop-octet
invariant-loop-octet l = l.out.items ≡ l.fn.out.items ++ entities (take l.octet-index l.text)
