use Rattle.std.proofs.Common.{◌≡◌, drop, map}
use Rattle.serde_json.specs.View.{view}
use Rattle.hdl_rest.specs.Shapes.{list_fits}
use Rattle.hdl_rest.proofs.shapes.list_fits.Given as goal

abbrev pub invariant-loop-json : goal.invariant-loop-json
invariant-loop-json l = list_fits (map view (drop l.json-index l.list)) ≡ list_fits (map view l.list)
