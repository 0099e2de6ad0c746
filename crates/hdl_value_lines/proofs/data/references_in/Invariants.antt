use Rattle.std.proofs.Common.{◌≡◌, ◌<◌, ◌^◌, ◌++◌, List, Some, length, drop, map}
use Rattle.std.specs.List.{AllByRecursion}
use Rattle.hdl_value.specs.declared.references.RawRef.{RawRef}
use Rattle.hdl_value.specs.Reading.{◌>>=◌}
use Rattle.hdl_value_lines.specs.Data.{each_in}
use Rattle.hdl_value_lines.proofs.data.references_in.Given as goal

abbrev pub invariant-loop-word : goal.invariant-loop-word
invariant-loop-word l = record {
  reads : each_in (map (λ word. word.now) l.word-items) ≡ (each_in (map (λ word. word.now) (drop l.word-index l.word-items)) >>= λ (rs : List RawRef). Some (l.references.items ++ rs));
  short : AllByRecursion (λ r. length r.handle < 2 ^ 32) l.references.items;
}
