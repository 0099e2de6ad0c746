use Rattle.std.proofs.Common.{◌≡◌, ◌-◌, ◌++◌}
use Rattle.hdl_value.specs.Permission.{bits}
use Rattle.hdl_value_lines.proofs.fields.put_bits.Given as goal

abbrev pub invariant-loop : goal.invariant-loop
invariant-loop l = l.out.items ++ bits (l.count - l.counter) l.rest ≡ l.initial.out.items ++ bits l.count l.number
