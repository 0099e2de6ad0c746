use Rattle.std.proofs.Common.{◌≡◌, ◌++◌, take, map}
use Rattle.hdl_rest.specs.Suffix.{letter}
use Rattle.hdl_rest.proofs.suffix.with_suffix.Given as goal

abbrev pub invariant-loop-octet : goal.invariant-loop-octet
invariant-loop-octet l = l.name.items ≡ l.front ++ map letter (take l.octet-index l.drawn)
