use Rattle.std.proofs.Common.{◌≡◌, take}
use Rattle.hdl_proxy.proofs.question.copies.Given as goal

abbrev pub invariant-loop-kind : goal.invariant-loop-kind
invariant-loop-kind l = l.all.items ≡ take l.kind-index l.types
