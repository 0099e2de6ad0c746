use Rattle.std.specs.Prelude.{codes, flat_map}
use Rattle.std.proofs.lemmas.Result.{on_ok_weaker}
use Rattle.hdl_proxy.specs.Hops.{hop_part, hops_part}
use Rattle.hdl_proxy.proofs.Joined.{four}
use Rattle.hdl_proxy.proofs.hops.put_hops.Goals as goal

pub returns : goal.returns
unfolding hops_part
returns c =
    on_ok_weaker c.markup-2.result (λ put.
    four c.args.page.now.octets.items _ _ _ _
    (codes "<ol>\n") (flat_map hop_part c.args.names.now) (hop_part c.args.target.now) (codes "</ol>\n")
    c.in_ok-markup.ensures
    c.in_ok-put_each_hop.ensures
    c.in_ok-put_hop.ensures
    put)
    c.markup-2.ensures
