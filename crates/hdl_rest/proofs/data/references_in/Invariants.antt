use Rattle.std.proofs.Common.{◌≡◌, ◌<◌, ◌^◌, ◌++◌, List, Some, length, drop, map}
use Rattle.std.specs.List.{AllByRecursion}
use Rattle.serde_json.specs.View.{view}
use Rattle.hdl_value.specs.declared.references.RawRef.{RawRef}
use Rattle.hdl_value.specs.Reading.{◌>>=◌}
use Rattle.hdl_rest.specs.Data.{references_from}
use Rattle.hdl_rest.proofs.data.references_in.Given as goal

abbrev pub invariant-loop-json : goal.invariant-loop-json
invariant-loop-json l = record {
  reads : references_from (map view l.list) ≡ (references_from (map view (drop l.json-index l.list)) >>= λ (rs : List RawRef). Some (l.references.items ++ rs));
  short : AllByRecursion (λ r. length r.handle < 2 ^ 32) l.references.items;
}
