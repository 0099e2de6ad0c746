use Rattle.std.proofs.Common.{◌≡◌, ◌+◌, ◌++◌, List, Ok, drop, map}
use Rattle.serde_json.specs.View.{view}
use Rattle.hdl_value.specs.declared.value.Value.{Value}
use Rattle.hdl_rest.specs.Data.{◌>>>◌}
use Rattle.hdl_rest.specs.Record.{values_from}
use Rattle.hdl_rest.proofs.record.values_in.Given as goal

abbrev pub invariant-loop-json : goal.invariant-loop-json
invariant-loop-json l = record {
  place : l.place ≡ l.json-index + 1;
  reads : values_from 1 (map view l.list) ≡ (values_from l.place (map view (drop l.json-index l.list)) >>> λ (vs : List Value). Ok (l.values.items ++ vs));
}
