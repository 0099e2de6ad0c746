use Rattle.std.proofs.Common.{◌≡◌, filter}
use Rattle.hdl_value.specs.Refs.{refers}
use Rattle.hdl_reach.specs.Seen.{places}
use Rattle.hdl_export.proofs.references.referring.Given as goal

abbrev pub invariant-loop-one : goal.invariant-loop-one
invariant-loop-one l = places l.some.items ≡ filter refers (places l.yielded)
