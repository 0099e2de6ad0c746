use Rattle.std.proofs.Common.{◌≡◌, ◌++◌, take}
use Rattle.std.specs.List.{flat_map, AllByRecursion}
use Rattle.hdl_export.specs.Lines.{IsWritable}
use Rattle.hdl_export.specs.Rows.{line_text}
use Rattle.hdl_export.proofs.rows.put_values.Given as goal

abbrev pub invariant-loop-value : goal.invariant-loop-value
invariant-loop-value l = record {
  put : l.out.items ≡ l.fn.out.items ++ flat_map (line_text l.handle) (take l.value-index l.values);
  writable : AllByRecursion IsWritable (take l.value-index l.values);
}
