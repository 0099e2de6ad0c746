use Rattle.std.proofs.Common.{◌≡◌, ◌++◌, IsUtf8, string_bytes}
use Rattle.std.specs.Str.Iter.{chars_rest}
use Rattle.hdl_proxy.specs.Escape.{visible_text}
use Rattle.hdl_proxy.proofs.escape.visible_text.Given as goal

abbrev pub invariant-loop-c : goal.invariant-loop-c
invariant-loop-c l = IsUtf8 (chars_rest l.c-iterator) × (string_bytes l.out ++ visible_text (chars_rest l.c-iterator) ≡ visible_text l.fn.text)
