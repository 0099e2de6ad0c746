use Rattle.std.proofs.Common.{◌≡◌, true, false, refl}
use Rattle.std.specs.Str.{chars, is_utf8}
use Rattle.std.specs.List.{list_all}
use Rattle.std.proofs.lemmas.Bool.{false_from_ne_true}
use Rattle.std.proofs.lemmas.Str.{IsUtf8-from_is_utf8, is_utf8-from_IsUtf8}
use Rattle.hdl_value_lines.specs.Fields.{is_printed}
use Rattle.hdl_value_lines.proofs.fields.is_line.Goals as goal

pub returns-in_default : goal.returns-in_default
returns-in_default c =
    let no : is_utf8 c.args.octets.now ≡ false = false_from_ne_true _ (λ t. c.in_default.ensures.cases.0 (IsUtf8-from_is_utf8 c.args.octets.now t)) in
    rw no refl

pub returns : goal.returns
returns c =
    let yes : is_utf8 c.args.octets.now ≡ true = is_utf8-from_IsUtf8 c.args.octets.now c.in-Ok.ensures.cases.1 in
    let printed : c.are_printed.result ≡ list_all is_printed (chars c.args.octets.now) = rw (← c.in-Ok.ensures.cases.0) c.are_printed.ensures in
    rw yes printed
