use Rattle.std.proofs.Common.{◌≡◌, take, map}
use Rattle.serde_json.specs.View.{view}
use Rattle.hdl_value.specs.Refs.{raw}
use Rattle.hdl_proxy.specs.Json.{reference_json}
use Rattle.hdl_proxy.proofs.json.list_json.Given as goal

abbrev pub invariant-loop-reference : goal.invariant-loop-reference
invariant-loop-reference l = map view l.list.items ≡ map (λ r. reference_json (raw r)) (take l.reference-index l.references)
