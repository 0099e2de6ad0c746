use Rattle.std.proofs.Common.{◌≡◌, ◌++◌, drop}
use Rattle.hdl_rest.proofs.asking.type_copies.Given as goal

abbrev pub invariant-loop-kind : goal.invariant-loop-kind
invariant-loop-kind l = l.all.items ++ drop l.kind-index l.types ≡ l.types
