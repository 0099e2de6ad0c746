use Rattle.std.proofs.Common.{All, subst, sym}
use Rattle.std.proofs.lemmas.List.Elements.{All-push}
use Rattle.hdl_routes.specs.Route.{IsPrefix}
use Rattle.hdl_routes.proofs.route.read_prefixes.Goals as goal

pub loop-part-preserved : goal.loop-part-preserved
loop-part-preserved c =
    subst (All IsPrefix) (sym c.in-Ok.ensures.items) (All-push IsPrefix c.loop-part.prefixes.items c.in_ok-prefix.prefix c.loop-part.invariant c.in_ok-prefix.ensures)
