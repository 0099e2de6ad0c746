use Rattle.std.proofs.Common.{All}
use Rattle.hdl_routes.specs.Route.{IsPrefix}
use Rattle.hdl_routes.proofs.route.read_prefixes.Given as goal

abbrev pub invariant-loop-part : goal.invariant-loop-part
invariant-loop-part l = All IsPrefix l.prefixes.items
