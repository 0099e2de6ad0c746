use Rattle.std.proofs.Common.{◌≡◌, Some, None, rules}
use Rattle.hdl_value_lines.specs.Hiding.{value_of_fields}
use Rattle.hdl_value_lines.proofs.Whole.{line_of_fields, line_of_octets}
use Rattle.hdl_value_lines.proofs.hiding.whole_line.Goals as goal

pub returns-in-Some : goal.returns-in-Some
returns-in-Some c =
    let e : value_of_fields c.args.value.now ≡ Some c.in-Some.value = search rules in
    rw (line_of_fields c.args.value.now c.in-Some.value e) c.fields_line.ensures

pub returns-in-None : goal.returns-in-None
returns-in-None c =
    let e : value_of_fields c.args.value.now ≡ None = search rules in
    rw (line_of_octets c.args.value.now e) c.spelling_line.ensures
