use Rattle.std.proofs.Common.{◌≡◌, drop}
use Rattle.std.specs.List.{list_all}
use Rattle.hdl_rest.specs.Plan.{is_among}
use Rattle.hdl_rest.proofs.carry.first_unasked.Given as goal

abbrev pub invariant-loop-value : goal.invariant-loop-value
invariant-loop-value l = list_all (λ value. is_among value.index l.among) (drop l.value-index l.values) ≡ list_all (λ value. is_among value.index l.among) l.values
