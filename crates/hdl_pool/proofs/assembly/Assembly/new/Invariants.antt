use Rattle.std.proofs.Common.{◌≡◌, replicate, None}
use Rattle.hdl_pool.proofs.assembly.Assembly.new.Given as goal

abbrev pub invariant-loop : goal.invariant-loop
invariant-loop l = l.payloads.items ≡ replicate l.counter None
