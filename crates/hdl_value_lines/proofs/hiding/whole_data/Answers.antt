use Rattle.std.proofs.Common.{◌≡◌, Some, rules}
use Rattle.hdl_value_lines.specs.Hiding.{value_of_fields}
use Rattle.hdl_value_lines.proofs.Whole.{data_of_fields}
use Rattle.hdl_value_lines.proofs.hiding.whole_data.Goals as goal

pub returns-in-Some : goal.returns-in-Some
returns-in-Some c =
    let e : value_of_fields c.args.value.now ≡ Some c.in-Some.value = search rules in
    rw (data_of_fields c.args.value.now c.in-Some.value e) c.behind_format.ensures
