use Rattle.std.proofs.Common.{take, map}
use Rattle.std.specs.List.{AllZip}
use Rattle.serde_json.specs.View.{view}
use Rattle.hdl_proxy.specs.Json.{IsValueJson}
use Rattle.hdl_proxy.proofs.json.values_json.Given as goal

abbrev pub invariant-loop-value : goal.invariant-loop-value
invariant-loop-value l = AllZip IsValueJson (take l.value-index l.values) (map view l.list.items)
