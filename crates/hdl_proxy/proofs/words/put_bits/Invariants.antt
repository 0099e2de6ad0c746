use Rattle.std.proofs.Common.{◌≡◌, ◌-◌, ◌++◌, string_bytes}
use Rattle.hdl_value.specs.Permission.{bits}
use Rattle.hdl_proxy.proofs.words.put_bits.Given as goal

abbrev pub invariant-loop : goal.invariant-loop
invariant-loop l = string_bytes l.out ++ bits (l.count - l.counter) l.rest ≡ string_bytes l.initial.out ++ bits l.count l.number
