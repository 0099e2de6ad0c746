use Rattle.std.proofs.Common.{◌+◌, ◌≤◌, length}
use Rattle.hdl_etcd.specs.declared.exchange.TheConstants.{BODY_MAX}
use Rattle.hdl_etcd.proofs.exchange.Exchange.take.Given as goal

abbrev pub invariant-loop : goal.invariant-loop
invariant-loop g l = length l.body.items + l.wanted ≤ BODY_MAX
