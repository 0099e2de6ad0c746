use Rattle.std.proofs.Common.{◌≡◌, IsUtf8}
use Rattle.std.specs.List.{list_all}
use Rattle.std.specs.Str.{chars}
use Rattle.std.specs.Str.Iter.{chars_rest}
use Rattle.hdl_value_lines.specs.Fields.{is_printed}
use Rattle.hdl_value_lines.proofs.fields.are_printed.Given as goal

abbrev pub invariant-loop-c : goal.invariant-loop-c
invariant-loop-c l = IsUtf8 (chars_rest l.c-iterator) × (list_all is_printed (chars (chars_rest l.c-iterator)) ≡ list_all is_printed (chars l.fn.text))
