use Rattle.std.proofs.Common.{◌≡◌, ◌++◌, ◌∷◌, take}
use Rattle.std.specs.Prelude.{codes}
use Rattle.std.specs.List.{flat_map}
use Rattle.hdl_value.specs.Refs.{raw}
use Rattle.hdl_value_lines.specs.Fields.{space}
use Rattle.hdl_value_lines.specs.Data.{reference_text}
use Rattle.hdl_value_lines.proofs.write.list_text.Given as goal

abbrev pub invariant-loop-reference : goal.invariant-loop-reference
invariant-loop-reference l = l.text.items ≡ codes "LIST" ++ flat_map (λ r. space ∷ reference_text (raw r)) (take l.reference-index l.reference-items)
