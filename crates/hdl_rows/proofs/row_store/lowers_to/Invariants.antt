use Rattle.std.proofs.Common.{◌≡◌, take, map}
use Rattle.std.specs.Char.{to_ascii_lowercase}
use Rattle.hdl_rows.proofs.row_store.lowers_to.Given as goal

abbrev pub invariant-loop-i : goal.invariant-loop-i
invariant-loop-i l = map to_ascii_lowercase (take l.i l.octets) ≡ take l.i l.lowered
