use Rattle.std.proofs.Common.{◌≡◌, ◌++◌, drop}
use Rattle.hdl_rest.specs.Plan.{known_values, fresh}
use Rattle.hdl_rest.proofs.plan.part.Given as goal

abbrev pub invariant-loop-value : goal.invariant-loop-value
invariant-loop-value l = record {
  known_values : l.known.items ++ known_values l.there (drop l.value-index l.values) ≡ known_values l.there l.values;
  fresh : l.fresh.items ++ fresh l.there (drop l.value-index l.values) ≡ fresh l.there l.values;
}
