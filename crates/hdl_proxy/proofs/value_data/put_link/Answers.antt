use Rattle.std.specs.Prelude.{codes}
use Rattle.std.proofs.lemmas.Result.{on_ok_weaker}
use Rattle.hdl_proxy.specs.Escape.{escaped}
use Rattle.hdl_proxy.specs.Pages.{link_part}
use Rattle.hdl_proxy.proofs.Joined.{five, said}
use Rattle.hdl_proxy.proofs.value_data.put_link.Goals as goal

pub returns : goal.returns
unfolding link_part
returns c =
    let to = c.args.to.now in
    on_ok_weaker c.markup-3.result (λ put.
    five c.args.page.now.octets.items _ _ _ _ _
    (codes "<p class=\"data\" dir=\"auto\"><a rel=\"noreferrer\" href=\"") (escaped to) (codes "\">") (escaped c.args.text.now) (codes "</a></p>\n")
    c.in_ok-markup.ensures
    (said c.markup.new.self.octets.items _ c.octets.result.now to c.in_ok-text.ensures c.octets.ensures.octets)
    c.in_ok-markup-2.ensures
    c.in_ok-text-2.ensures
    put)
    c.markup-3.ensures
