use Rattle.std.proofs.Common.{◌≡◌, ◌++◌, take}
use Rattle.hdl_history.specs.Lines.{lines_text}
use Rattle.hdl_history.proofs.write.put_lines.Given as goal

abbrev pub invariant-loop-line : goal.invariant-loop-line
invariant-loop-line l = l.out.items ≡ l.fn.out.items ++ lines_text (take l.line-index l.lines)
