use Rattle.std.proofs.Common.{◌≡◌, ◌≤◌, length, map, take}
use Rattle.hdl_history.specs.declared.write.TheConstants.{VALUES_TEXT_MAX}
use Rattle.hdl_history.specs.Lines.{shown, lines_text}
use Rattle.hdl_history.proofs.write.lines_before.Given as goal

abbrev pub invariant-loop-value : goal.invariant-loop-value
invariant-loop-value l = record {
  lines : l.lines.items ≡ map shown (take l.value-index l.values);
  count : l.count ≡ length (lines_text l.lines.items);
  within : l.count ≤ VALUES_TEXT_MAX;
}
