use Rattle.std.proofs.Common.{◌≡◌, ◌++◌, IsUtf8, string_bytes}
use Rattle.std.specs.Str.Iter.{chars_rest}
use Rattle.hdl_value_lines.specs.Printed.{printed_text}
use Rattle.hdl_value_lines.proofs.printing.printed_text.Given as goal

abbrev pub invariant-loop-c : goal.invariant-loop-c
invariant-loop-c l = IsUtf8 (chars_rest l.c-iterator) × (string_bytes l.out ++ printed_text (chars_rest l.c-iterator) ≡ printed_text l.fn.text)
