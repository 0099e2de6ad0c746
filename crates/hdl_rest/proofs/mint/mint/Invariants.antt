use Rattle.hdl_rest.specs.Orders.{AllExist}
use Rattle.hdl_rest.specs.Since.{AskedSince}
use Rattle.hdl_rest.proofs.mint.mint.Given as goal

abbrev pub invariant-loop : goal.invariant-loop
invariant-loop g l = AskedSince g.S.ChangeServer l.initial.service l.service (AllExist l.order.key l.order.name l.values)
