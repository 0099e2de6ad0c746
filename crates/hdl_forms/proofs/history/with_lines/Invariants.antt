use Rattle.std.proofs.Common.{◌≡◌, ◌++◌, drop}
use Rattle.std.specs.List.{flat_map}
use Rattle.hdl_forms.specs.History.{line_part}
use Rattle.hdl_forms.proofs.history.with_lines.Given as goal

abbrev pub invariant-loop-line : goal.invariant-loop-line
invariant-loop-line l = l.rows ++ flat_map line_part (drop l.line-index l.lines) ≡ l.fn.page ++ flat_map line_part l.lines
