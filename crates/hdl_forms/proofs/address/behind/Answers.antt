use Rattle.std.proofs.Common.{rules}
use Rattle.hdl_forms.proofs.Short.{too_short}
use Rattle.hdl_forms.proofs.address.behind.Goals as goal
use Rattle.hdl_forms.proofs.address.behind.Goals.{in_default-via-in-Some+else-eq_ignore_ascii_case, in_default-via-in_default}

pub returns-in_default : goal.returns-in_default
returns-in_default c =
    elim c.in_default.branch [
      | in_default-via-in-Some+else-eq_ignore_ascii_case w ↦ search rules
      | in_default-via-in_default w ↦ too_short c.args.text.now c.args.front.now w.in_default.ensures.cases
    ]
