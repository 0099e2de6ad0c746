use Rattle.std.proofs.Common.{◌≡◌, drop, map}
use Rattle.serde_json.specs.View.{view}
use Rattle.hdl_rest.specs.Shapes.{all_fit}
use Rattle.hdl_rest.proofs.shapes.all_fit.Given as goal

abbrev pub invariant-loop-json : goal.invariant-loop-json
invariant-loop-json l = all_fit (map view (drop l.json-index l.list)) ≡ all_fit (map view l.list)
