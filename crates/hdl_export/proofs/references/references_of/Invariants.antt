use Rattle.std.proofs.Common.{◌≡◌, ◌++◌}
use Rattle.hdl_reach.specs.Seen.{places}
use Rattle.hdl_export.proofs.references.references_of.Given as goal

abbrev pub invariant-loop-one : goal.invariant-loop-one
invariant-loop-one l = places l.all.items ≡ places l.initial.all.items ++ places l.yielded
